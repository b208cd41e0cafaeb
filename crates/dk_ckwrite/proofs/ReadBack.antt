-- A written file is one that a checkpoint is read from, with the rows that were written.
use Rattle.std.proofs.Common.{◌≡◌, ℕ, Bool, true, false, ◌&&◌, List, [], ◌∷◌, ◌++◌, codes, Option, Some, None, option_map, option_and_then, refl, sym, ap, subst, ◌∙◌}
use Rattle.std.specs.Prelude.{IsSomeAnd}
use Rattle.std.specs.Str.{bytes_eq}
use Rattle.std.proofs.lemmas.Bool.{and_parts, true≢false}
use Rattle.std.proofs.lemmas.Slice.Eq.{bytes_eq-Decides}
use Rattle.dk_grammar.specs.Structs.{first_of_two}
use Rattle.dk_pqmodel.specs.Shape.{Shape, Field, field, Fields, leaf, chars}
use Rattle.dk_pqmodel.specs.Shape as shape
use Rattle.dk_pqmodel.specs.Schema.{is_named}
use Rattle.dk_pqmodel.specs.Datum.{Cells}
use Rattle.dk_pqmodel.specs.Footer.{RowGroup}
use Rattle.dk_pqmodel.specs.FileMeans.{FileMeans, HasColumns, HaveRows, all_rows, columns_of}
use Rattle.dk_pqmodel.specs.FileSchema.{FileNode, FileNodes, no_nodes, one_node, node_name, children_of, named_in, is_single, is_optional, has_children}
use Rattle.dk_pqmodel.specs.Fits.{AreTriplesOf}
use Rattle.dk_pqmodel.specs.Projection.{Path, Plan, missing, Plans, on_some, projection_at, projection_named, projection_each, projection, projected_fields, rows_widened, first_leaf, misfit_at, misfit_named, misfit_each, first_misfit}
use Rattle.dk_model.specs.declared.action_key.ActionKey.TheVariants as key
use Rattle.dk_model.specs.ActionKeys.{name_of}
use Rattle.dk_engine.specs.OwnFields.{are_named, HasOwnIn, HasOwnFields, MeansAlone}
use Rattle.dk_lawful.specs.CheckpointSchema.{nullable_field, fields, keyed_group, add_group, vector_group, txn_group, remove_group, metadata_group, protocol_group, domain_group, checkpoint_group, sidecar_group, written_fields, read_fields}
use Rattle.dk_rowmap.specs.WrittenRows.{rows_read}
use Rattle.dk_ckwrite.proofs.ReadRows.{rows_vectorless}
use Rattle.dk_ckwrite.proofs.RowsRead.{rows_same}
use Rattle.dk_ckwrite.proofs.OneMoreField.{Beside, and_missing, each_more, misfit_more, beside_when, fits_when, fields_same, columns_same, rows_beside}

-- ---- a name that no field has

not_there : (name : List ℕ) (ns : FileNodes) (fs : Fields) → is_named name fs ≡ false → are_named ns fs ≡ true → named_in name ns ≡ None
not_there name no_nodes fs h k = refl
not_there name (one_node n ns) fs h k = by (bytes_eq name (node_name n)) refl (not_there name ns fs h both.1)
  where
    both : (is_named (node_name n) fs ≡ true) × (are_named ns fs ≡ true)
    both = and_parts (is_named (node_name n) fs) (are_named ns fs) k

    by : (b : Bool) → bytes_eq name (node_name n) ≡ b → named_in name ns ≡ None → named_in name (one_node n ns) ≡ None
    by true e behind = absurd (true≢false (sym (subst (λ (other : List ℕ). is_named other fs ≡ true) (sym ((bytes_eq-Decides name (node_name n)).0 e)) both.0) ∙ h))
    by false e behind = rw e behind

-- ---- the group of an add

abbrev vector : Field
vector = nullable_field (codes "deletionVector") (shape.group (fields (nullable_field (codes "storageType") (leaf chars) ∷ [])))

no_vector : is_named (codes "deletionVector") (fields add_group) ≡ false
unfolding add_group
no_vector = refl

vector_missing : (path : Path) (ns : FileNodes) → are_named ns (fields add_group) ≡ true → projection_named vector path ns ≡ missing
vector_missing path ns own = rw (not_there (codes "deletionVector") ns (fields add_group) no_vector own) refl

vector_fits : (path : Path) (ns : FileNodes) → are_named ns (fields add_group) ≡ true → misfit_named vector path ns ≡ None
vector_fits path ns own = rw (not_there (codes "deletionVector") ns (fields add_group) no_vector own) refl

abbrev add_named : List Field → Field
add_named adds = keyed_group key.Add adds

plan_more : (path : Path) (ns : FileNodes) → are_named ns (fields add_group) ≡ true
    → projection_each (fields (add_group ++ vector_group)) path ns ≡ and_missing (projection_each (fields add_group) path ns)
unfolding vector_group
plan_more path ns own = each_more add_group vector path ns (vector_missing path ns own)

fits_more : (path : Path) (ns : FileNodes) → are_named ns (fields add_group) ≡ true → misfit_each (fields (add_group ++ vector_group)) path ns ≡ misfit_each (fields add_group) path ns
unfolding vector_group
fits_more path ns own = misfit_more add_group vector path ns (vector_fits path ns own)

abbrev narrow_add : Shape
narrow_add = shape.group (fields add_group)

abbrev wide_add : Shape
wide_add = shape.group (fields (add_group ++ vector_group))

at_node : (path : Path) (n : FileNode) → HasOwnIn (add_named add_group) n → Beside (projection_at narrow_add path n) (projection_at wide_add path n)
at_node path n own =
    beside_when (is_single n && has_children n) (is_optional n) (projection_each (fields add_group) path) (projection_each (fields (add_group ++ vector_group)) path) (children_of n)
    (plan_more path (children_of n) own.0)

found : (path : Path) (o : Option FileNode) → IsSomeAnd o (HasOwnIn (add_named add_group)) → Beside (on_some o (λ n. projection_at narrow_add path n)) (on_some o (λ n. projection_at wide_add path n))
found path None own = absurd own
found path (Some n) own = at_node path n own

node_fits : (path : Path) (n : FileNode) → HasOwnIn (add_named add_group) n → misfit_at narrow_add path n ≡ None → misfit_at wide_add path n ≡ None
node_fits path n own h =
    fits_when (is_single n && has_children n) (misfit_each (fields add_group) path) (misfit_each (fields (add_group ++ vector_group)) path) (first_leaf narrow_add path) (first_leaf wide_add path) (children_of n)
    (fits_more path (children_of n) own.0) h

found_fits : (path : Path) (o : Option FileNode) → IsSomeAnd o (HasOwnIn (add_named add_group)) → option_and_then (λ n. misfit_at narrow_add path n) o ≡ None → option_and_then (λ n. misfit_at wide_add path n) o ≡ None
found_fits path None own h = absurd own
found_fits path (Some n) own h = node_fits path n own h

-- ---- the groups of a row

second_none : (t one other rest : Option Path) → (one ≡ None → other ≡ None) → first_of_two t (first_of_two one rest) ≡ None → first_of_two t (first_of_two other rest) ≡ None
second_none (Some p) one other rest f h = h
second_none None None other rest f h = rw (f refl) h
second_none None (Some p) other rest f h = absurd (some_is_none h)
  where
    some_is_none : {A : Type 0} {x : A} → Some x ≡ None → ⊥
    some_is_none e = cc

abbrev others : Fields
others = fields (
    keyed_group key.Remove remove_group
    ∷ keyed_group key.Metadata metadata_group
    ∷ keyed_group key.Protocol protocol_group
    ∷ keyed_group key.Domain domain_group
    ∷ keyed_group key.CheckpointMeta checkpoint_group
    ∷ keyed_group key.Sidecar sidecar_group
    ∷ []
    )

abbrev add_path : Path
add_path = name_of key.Add ∷ []

module _ (ns : FileNodes) (own : HasOwnFields written_fields ns) where
  abbrev txn_plan : Plan
  txn_plan = projection_named (keyed_group key.Txn txn_group) [] ns

  abbrev narrow_plan : Plan
  narrow_plan = projection_named (add_named add_group) [] ns

  abbrev wide_plan : Plan
  wide_plan = projection_named (add_named (add_group ++ vector_group)) [] ns

  beside : Beside narrow_plan wide_plan
  beside = found add_path (named_in (name_of key.Add) ns) own.1.1.0

  fields_read : projected_fields (projection read_fields ns) ≡ projected_fields (projection written_fields ns)
  fields_read = fields_same txn_plan narrow_plan wide_plan (projection_each others [] ns) beside

  columns_read : columns_of (projection read_fields ns) 0 0 ≡ columns_of (projection written_fields ns) 0 0
  columns_read = columns_same txn_plan narrow_plan wide_plan (projection_each others [] ns) beside

  rows_turned : (rows : Cells) → rows_widened (projection read_fields ns) rows ≡ option_map rows_vectorless (rows_widened (projection written_fields ns) rows)
  rows_turned rows = rows_beside txn_plan narrow_plan wide_plan (projection_each others [] ns) beside rows

  fits_read : first_misfit written_fields ns ≡ None → first_misfit read_fields ns ≡ None
  fits_read h =
      second_none (misfit_named (keyed_group key.Txn txn_group) [] ns) (misfit_named (add_named add_group) [] ns) (misfit_named (add_named (add_group ++ vector_group)) [] ns) (misfit_each others [] ns)
      (found_fits add_path (named_in (name_of key.Add) ns) own.1.1.0) h

-- ---- the file

rows_by : (before : List ℕ) (one other : Plans) → columns_of other 0 0 ≡ columns_of one 0 0 → projected_fields other ≡ projected_fields one → (groups : List RowGroup) (shares : List Cells)
    → HaveRows before one groups shares → HaveRows before other groups shares
rows_by before one other columns cut [] [] h = tt
rows_by before one other columns cut (g ∷ gs) (s ∷ ss) h = (
  record {
    columns = h.0.columns;
    held = subst (λ cs. HasColumns before g cs h.0.columns) (sym columns) h.0.held;
    triples = subst (λ fs. AreTriplesOf fs s h.0.columns) (sym cut) h.0.triples;
    count = h.0.count;
  },
  rows_by before one other columns cut gs ss h.1,
)
rows_by before one other columns cut (g ∷ gs) [] h = absurd h
rows_by before one other columns cut [] (s ∷ ss) h = absurd h

by_places : (bytes : List ℕ) (rows : Cells) → MeansAlone written_fields bytes rows → FileMeans read_fields bytes (rows_vectorless rows)
by_places bytes rows alone =
    let file = alone.means in
    let ns = file.footer.fields in
    record {
      before = file.before;
      part = file.part;
      framed = file.framed;
      footer = file.footer;
      spelled = file.spelled;
      fitting = fits_read ns alone.own file.fitting;
      shares = file.shares;
      held = rows_by file.before (projection written_fields ns) (projection read_fields ns) (columns_read ns alone.own) (fields_read ns alone.own) file.footer.groups file.shares file.held;
      count = file.count;
      widened = rows_turned ns alone.own (all_rows file.shares) ∙ ap (option_map rows_vectorless) file.widened;
    }

pub read_back : (bytes : List ℕ) (rows : Cells) → MeansAlone written_fields bytes rows → FileMeans read_fields bytes (rows_read rows)
read_back bytes rows alone = subst (FileMeans read_fields bytes) (sym (rows_same rows)) (by_places bytes rows alone)
