-- A group that is wanted with one field more than the file has: its plan, what is cut of the file, and the cells that come of it.
use Rattle.std.proofs.Common.{◌≡◌, ◌⊎◌, inl, inr, ℕ, ◌+◌, Bool, true, false, ◌&&◌, List, [], ◌∷◌, ◌++◌, Option, Some, None, option_map, refl, ap, ◌∙◌}
use Rattle.dk_grammar.specs.Structs.{first_of_two}
use Rattle.dk_pqmodel.specs.Shape.{Field, field, Fields, no_fields, one_field}
use Rattle.dk_pqmodel.specs.Shape as shape
use Rattle.dk_pqmodel.specs.Datum.{Datum, null, atom, group, list, Cells, no_cells, one_cell, appended}
use Rattle.dk_pqmodel.specs.FileSchema.{FileNodes, some_when}
use Rattle.dk_pqmodel.specs.FileMeans.{columns_in, columns_of, one_if}
use Rattle.dk_pqmodel.specs.Projection.{Path, Plan, missing, members, Plans, no_plans, one_plan, is_missing, all_missing, on_some, members_of, projection_named, projection_each, projected_field, projected_fields, unnamed_field, field_then, both_read, in_group, next_cell, widened, widened_each, rows_widened, misfit_unless, misfit_named, misfit_each}
use Rattle.dk_lawful.specs.CheckpointSchema.{fields}
use Rattle.dk_ckwrite.proofs.ReadRows.{vectorless, first_vectorless, cells_vectorless, row_vectorless, rows_vectorless}

-- ---- the plans of its fields

abbrev pub and_missing : Plans → Plans
and_missing no_plans = one_plan missing no_plans
and_missing (one_plan p ps) = one_plan p (and_missing ps)

pub each_more : (fs : List Field) (f : Field) (path : Path) (ns : FileNodes) → projection_named f path ns ≡ missing
    → projection_each (fields (fs ++ f ∷ [])) path ns ≡ and_missing (projection_each (fields fs) path ns)
each_more [] f path ns h = ap (λ p. one_plan p no_plans) h
each_more (g ∷ fs) f path ns h = ap (one_plan (projection_named g path ns)) (each_more fs f path ns h)

pub misfit_more : (fs : List Field) (f : Field) (path : Path) (ns : FileNodes) → misfit_named f path ns ≡ None → misfit_each (fields (fs ++ f ∷ [])) path ns ≡ misfit_each (fields fs) path ns
misfit_more [] f path ns h = ap (λ o. first_of_two o None) h
misfit_more (g ∷ fs) f path ns h = ap (first_of_two (misfit_named g path ns)) (misfit_more fs f path ns h)

fields_and : (ps : Plans) → projected_fields (and_missing ps) ≡ projected_fields ps
fields_and no_plans = refl
fields_and (one_plan p ps) = ap (field_then (projected_field p)) (fields_and ps)

columns_and : (ps : Plans) (r d : ℕ) → columns_of (and_missing ps) r d ≡ columns_of ps r d
columns_and no_plans r d = refl
columns_and (one_plan p ps) r d = ap (λ cs. columns_in p r d ++ cs) (columns_and ps r d)

missing_and : (ps : Plans) → all_missing (and_missing ps) ≡ all_missing ps
missing_and no_plans = refl
missing_and (one_plan p ps) = ap (λ b. is_missing p && b) (missing_and ps)

-- ---- its cells

abbrev and_null : Cells → Cells
and_null cs = appended cs (one_cell null no_cells)

both_and : (c : Option Datum) (cs : Option Cells) → both_read c (option_map and_null cs) ≡ option_map and_null (both_read c cs)
both_and None cs = refl
both_and (Some c) None = refl
both_and (Some c) (Some cs) = refl

next_and : (b : Bool) (turn : Datum → Option Datum) (one other : Cells → Option Cells) (cs : Cells) → ((xs : Cells) → other xs ≡ option_map and_null (one xs))
    → next_cell b turn other cs ≡ option_map and_null (next_cell b turn one cs)
next_and true turn one other cs h = ap (both_read (Some null)) (h cs) ∙ both_and (Some null) (one cs)
next_and false turn one other no_cells h = refl
next_and false turn one other (one_cell c cs) h = ap (both_read (turn c)) (h cs) ∙ both_and (turn c) (one cs)

each_and : (ps : Plans) (cs : Cells) → widened_each (and_missing ps) cs ≡ option_map and_null (widened_each ps cs)
each_and no_plans cs = refl
each_and (one_plan p ps) cs = next_and (is_missing p) (widened p) (widened_each ps) (widened_each (and_missing ps)) cs (each_and ps)

-- ---- its plan

-- it is missing both times, or its fields are read, and then one that is missing
abbrev pub Beside : Plan → Plan → Type 0
Beside one other = ((one ≡ missing) × (other ≡ missing)) ⊎ ((b : Bool) × ((ps : Plans) × ((one ≡ members b ps) × (other ≡ members b (and_missing ps)))))

beside_of : (b : Bool) (ps : Plans) → Beside (members_of b ps) (members_of b (and_missing ps))
beside_of b ps = by (all_missing ps) refl
  where
    by : (gone : Bool) → all_missing ps ≡ gone → Beside (members_of b ps) (members_of b (and_missing ps))
    by true e = rw (missing_and ps, e) (inl (refl, refl))
    by false e = rw (missing_and ps, e) (inr (b, (ps, (refl, refl))))

pub beside_when : (w b : Bool) (one other : FileNodes → Plans) (ms : FileNodes) → other ms ≡ and_missing (one ms)
    → Beside (on_some (some_when w ms) (λ ns. members_of b (one ns))) (on_some (some_when w ms) (λ ns. members_of b (other ns)))
beside_when true b one other ms h = rw h (beside_of b (one ms))
beside_when false b one other ms h = inl (refl, refl)

pub fits_when : (w : Bool) (one other : FileNodes → Option Path) (p q : Path) (ms : FileNodes) → other ms ≡ one ms → misfit_unless (some_when w ms) p one ≡ None → misfit_unless (some_when w ms) q other ≡ None
fits_when true one other p q ms same h = same ∙ h
fits_when false one other p q ms same h = absurd (some_is_none h)
  where
    some_is_none : {A : Type 0} {x : A} → Some x ≡ None → ⊥
    some_is_none e = cc

field_beside : (one other : Plan) → Beside one other → projected_field other ≡ projected_field one
field_beside one other (inl both) = rw (both.0, both.1) refl
field_beside one other (inr (b, (ps, both))) = rw (both.0, both.1) (ap (λ fs. unnamed_field b (shape.group fs)) (fields_and ps))

columns_beside : (one other : Plan) (r d : ℕ) → Beside one other → columns_in other r d ≡ columns_in one r d
columns_beside one other r d (inl both) = rw (both.0, both.1) refl
columns_beside one other r d (inr (b, (ps, both))) = rw (both.0, both.1) (columns_and ps r (d + one_if b))

-- ---- where it is the second of the groups of a row

pub fields_same : (t one other : Plan) (rest : Plans) → Beside one other → projected_fields (one_plan t (one_plan other rest)) ≡ projected_fields (one_plan t (one_plan one rest))
fields_same t one other rest beside = ap (λ f. field_then (projected_field t) (field_then f (projected_fields rest))) (field_beside one other beside)

pub columns_same : (t one other : Plan) (rest : Plans) → Beside one other → columns_of (one_plan t (one_plan other rest)) 0 0 ≡ columns_of (one_plan t (one_plan one rest)) 0 0
columns_same t one other rest beside = ap (λ cs. columns_in t 0 0 ++ (cs ++ columns_of rest 0 0)) (columns_beside one other 0 0 beside)

null_first : (o : Option Cells) → both_read (Some null) o ≡ option_map first_vectorless (both_read (Some null) o)
null_first None = refl
null_first (Some cs) = refl

group_after : (o : Option Cells) → option_map group (option_map and_null o) ≡ option_map vectorless (option_map group o)
group_after None = refl
group_after (Some cs) = refl

group_and : (ps : Plans) (c : Datum) → in_group (widened_each (and_missing ps)) c ≡ option_map vectorless (in_group (widened_each ps) c)
group_and ps null = refl
group_and ps (atom v) = refl
group_and ps (list cs) = refl
group_and ps (group cs) = ap (option_map group) (each_and ps cs) ∙ group_after (widened_each ps cs)

both_first : (c : Option Datum) (cs : Option Cells) → both_read (option_map vectorless c) cs ≡ option_map first_vectorless (both_read c cs)
both_first None cs = refl
both_first (Some c) None = refl
both_first (Some c) (Some cs) = refl

members_first : (b : Bool) (ps rest : Plans) (cs : Cells) → widened_each (one_plan (members b (and_missing ps)) rest) cs ≡ option_map first_vectorless (widened_each (one_plan (members b ps) rest) cs)
members_first b ps rest no_cells = refl
members_first b ps rest (one_cell c cs) = ap (λ o. both_read o (widened_each rest cs)) (group_and ps c) ∙ both_first (in_group (widened_each ps) c) (widened_each rest cs)

first_beside : (one other : Plan) (rest : Plans) → Beside one other → (cs : Cells) → widened_each (one_plan other rest) cs ≡ option_map first_vectorless (widened_each (one_plan one rest) cs)
first_beside one other rest (inl both) cs = rw (both.0, both.1) (null_first (widened_each rest cs))
first_beside one other rest (inr (b, (ps, both))) cs = rw (both.0, both.1) (members_first b ps rest cs)

both_cells : (c : Option Datum) (cs : Option Cells) → both_read c (option_map first_vectorless cs) ≡ option_map cells_vectorless (both_read c cs)
both_cells None cs = refl
both_cells (Some c) None = refl
both_cells (Some c) (Some cs) = refl

next_cells : (b : Bool) (turn : Datum → Option Datum) (one other : Cells → Option Cells) (cs : Cells) → ((xs : Cells) → other xs ≡ option_map first_vectorless (one xs))
    → next_cell b turn other cs ≡ option_map cells_vectorless (next_cell b turn one cs)
next_cells true turn one other cs h = ap (both_read (Some null)) (h cs) ∙ both_cells (Some null) (one cs)
next_cells false turn one other no_cells h = refl
next_cells false turn one other (one_cell c cs) h = ap (both_read (turn c)) (h cs) ∙ both_cells (turn c) (one cs)

row_after : (o : Option Cells) → option_map group (option_map cells_vectorless o) ≡ option_map row_vectorless (option_map group o)
row_after None = refl
row_after (Some cs) = refl

both_rows : (c : Option Datum) (cs : Option Cells) → both_read (option_map row_vectorless c) (option_map rows_vectorless cs) ≡ option_map rows_vectorless (both_read c cs)
both_rows None cs = refl
both_rows (Some c) None = refl
both_rows (Some c) (Some cs) = refl

module _ (t one other : Plan) (rest : Plans) (beside : Beside one other) where
  abbrev narrow : Plans
  narrow = one_plan t (one_plan one rest)

  abbrev wide : Plans
  wide = one_plan t (one_plan other rest)

  row_beside : (c : Datum) → in_group (widened_each wide) c ≡ option_map row_vectorless (in_group (widened_each narrow) c)
  row_beside null = refl
  row_beside (atom v) = refl
  row_beside (list cs) = refl
  row_beside (group cs) =
      ap (option_map group) (next_cells (is_missing t) (widened t) (widened_each (one_plan one rest)) (widened_each (one_plan other rest)) cs (first_beside one other rest beside))
      ∙ row_after (widened_each narrow cs)

  pub rows_beside : (rows : Cells) → rows_widened wide rows ≡ option_map rows_vectorless (rows_widened narrow rows)
  rows_beside no_cells = refl
  rows_beside (one_cell c cs) =
      ap (λ o. both_read o (rows_widened wide cs)) (row_beside c)
      ∙ ap (both_read (option_map row_vectorless (in_group (widened_each narrow) c))) (rows_beside cs)
      ∙ both_rows (in_group (widened_each narrow) c) (rows_widened narrow cs)
