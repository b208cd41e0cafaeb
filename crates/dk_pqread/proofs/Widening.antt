-- Wanted cells from those that are read, one after another.
use Rattle.std.proofs.Common.{◌≡◌, ℕ, ◌+◌, ◌<◌, ◌≤◌, Bool, true, false, List, [], ◌∷◌, ◌++◌, length, get_or, drop, rules, is_some, Vec, Box, Global, String, Option, Some, None, refl, sym, ap, ◌∙◌, arith}
use Rattle.std.specs.Option.{option_map, option_and_then}
use Rattle.std.proofs.lemmas.List.{drop_all}
use Rattle.dk_pqmodel.specs.Datum.{Datum, null, atom, group, list, Cells, no_cells, one_cell, appended}
use Rattle.dk_pqmodel.specs.Projection.{elements, entries, is_missing, both_read, next_cell, pair_of, rows_widened, turned_all, widened, widened_each, Plans}
use Rattle.dk_pqmodel.specs.RowView.{datum_of, cells_of, row_of, rows_of}
use Rattle.dk_pqmodel.specs.declared.row.Row.{Row}
use Rattle.dk_pqmodel.specs.declared.row.Cell.{Cell}
use Rattle.dk_pqmodel.specs.declared.row.Cell as cell
use Rattle.dk_pqmodel.specs.declared.fault.PqFault.{PqFault}
use Rattle.dk_levels.specs.Answers.{FailsMeant}
use Rattle.dk_pqread.specs.Cells.{cells_then, first_cell, is_atom, key_and_value, taken_for, value_for}
use Rattle.dk_pqread.specs.PlanView.{path_of, plan_of, plans_of}
use Rattle.dk_pqread.specs.declared.plan.Plan as code
use Rattle.dk_pqread.proofs.Failing.{fails_same}
use Rattle.dk_pqread.proofs.Going.{plans_of-drop, cells_then_push, appended_nothing}
use Rattle.dk_pqread.proofs.PartLaws.{none_is_not_some, some_is}

pub none_left : {X : Type 0} (xs : List X) → length xs ≡ 0 → xs ≡ []
none_left [] e = refl
none_left (x ∷ xs) e = absurd (omega (arith, e))

pub datum_of-Group : (v : Vec Cell Global) → datum_of (cell.Group v) ≡ group (cells_of v.items)
datum_of-Group v = search (rules, cell.the_lemmas)

pub plan_of-Elements : (b : Bool) (p : Box code.Plan Global) → plan_of (code.Elements b p) ≡ elements b (plan_of p.value)
plan_of-Elements b p = search (rules, code.the_lemmas)

pub plan_of-Entries : (b k : Bool) (path : Vec (String Global) Global) (p : Box code.Plan Global) → plan_of (code.Entries b k path p) ≡ entries b k (path_of path.items) (plan_of p.value)
plan_of-Entries b k path p = search (rules, code.the_lemmas)

-- an entry's pair by its key and its value
pair_parts : (turn : Datum → Option Datum) (d : Datum)
    → pair_of turn d ≡ option_and_then (λ x. option_map (λ w. group (one_cell x.0 (one_cell w no_cells))) (value_for turn x.1)) (key_and_value d)
pair_parts turn null = refl
pair_parts turn (atom v) = refl
pair_parts turn (list cs) = refl
pair_parts turn (group no_cells) = refl
pair_parts turn (group (one_cell null cs)) = refl
pair_parts turn (group (one_cell (group ds) cs)) = refl
pair_parts turn (group (one_cell (list ds) cs)) = refl
pair_parts turn (group (one_cell (atom k) no_cells)) = refl
pair_parts turn (group (one_cell (atom k) (one_cell v no_cells))) = refl
pair_parts turn (group (one_cell (atom k) (one_cell v (one_cell c cs)))) = refl

both_some : (c : Datum) (more : Option Cells) → both_read (Some c) more ≡ option_map (one_cell c) more
both_some c None = refl
both_some c (Some cs) = refl

module _ (turn : Datum → Option Datum) (done : List Cell) (c : Cell) (rest : Cells) (all : Option Cells) (left : cells_then (cells_of done) (turned_all turn (one_cell (datum_of c) rest)) ≡ all) where
  pub turned_more : (w : Cell) (now : List Cell) → turn (datum_of c) ≡ Some (datum_of w) → now ≡ done ++ w ∷ [] → cells_then (cells_of now) (turned_all turn rest) ≡ all
  turned_more w now e pushed =
      ap (λ x. cells_then (cells_of x) (turned_all turn rest)) pushed ∙ cells_then_push done w (turned_all turn rest)
      ∙ ap (cells_then (cells_of done)) (sym (rw e (both_some (datum_of w) (turned_all turn rest)))) ∙ left

  pub turned_fails : (fault : PqFault) → FailsMeant fault (turn (datum_of c)) → FailsMeant fault all
  turned_fails fault h = fails_same fault (turn (datum_of c)) all (λ e. sym left ∙ rw e refl) h

-- ---- the cells of a group

next_is : (b : Bool) (turn : Datum → Option Datum) (others : Cells → Option Cells) (cs : Cells) (w : Datum) (rest : Cells) → taken_for b turn cs ≡ Some (w, rest)
    → next_cell b turn others cs ≡ option_map (one_cell w) (others rest)
next_is true turn others cs w rest e =
    let pair = some_is (null, cs) (w, rest) e in
    both_some null (others cs) ∙ ap (λ (x : Datum × Cells). option_map (one_cell x.0) (others x.1)) pair
next_is false turn others no_cells w rest e = absurd (none_is_not_some (w, rest) e)
next_is false turn others (one_cell c cs) w rest e = by_cell (turn c) e
  where
    by_cell : (o : Option Datum) → option_map {U = Datum × Cells} (λ v. (v, cs)) o ≡ Some (w, rest) → both_read o (others cs) ≡ option_map (one_cell w) (others rest)
    by_cell None e = absurd (none_is_not_some (w, rest) e)
    by_cell (Some v) e = both_some v (others cs) ∙ ap (λ (x : Datum × Cells). option_map (one_cell x.0) (others x.1)) (some_is (v, cs) (w, rest) e)

next_none : (b : Bool) (turn : Datum → Option Datum) (others : Cells → Option Cells) (cs : Cells) → taken_for b turn cs ≡ None → next_cell b turn others cs ≡ None
next_none true turn others cs e = cc
next_none false turn others no_cells e = refl
next_none false turn others (one_cell c cs) e = by_cell (turn c) e
  where
    by_cell : (o : Option Datum) → option_map {U = Datum × Cells} (λ v. (v, cs)) o ≡ None → both_read o (others cs) ≡ None
    by_cell None e = refl
    by_cell (Some v) e = cc

module _ (plans : List code.Plan) (i : ℕ) (plan : code.Plan) (done : List Cell) (h : i < length plans) (is : plan ≡ get_or plans i plan) (cs : Cells) (all : Option Cells)
    (left : cells_then (cells_of done) (widened_each (plans_of (drop i plans)) cs) ≡ all) where
  opened : cells_then (cells_of done) (next_cell (is_missing (plan_of plan)) (widened (plan_of plan)) (widened_each (plans_of (drop (i + 1) plans))) cs) ≡ all
  opened = ap (λ ps. cells_then (cells_of done) (widened_each ps cs)) (sym (plans_of-drop plans i plan h is)) ∙ left

  pub each_more : (now : List Cell) (w : Cell) (rest : Cells) → taken_for (is_missing (plan_of plan)) (widened (plan_of plan)) cs ≡ Some (datum_of w, rest) → now ≡ done ++ w ∷ []
      → cells_then (cells_of now) (widened_each (plans_of (drop (i + 1) plans)) rest) ≡ all
  each_more now w rest e pushed =
      let others = widened_each (plans_of (drop (i + 1) plans)) in
      ap (λ x. cells_then (cells_of x) (others rest)) pushed ∙ cells_then_push done w (others rest)
      ∙ ap (cells_then (cells_of done)) (sym (next_is (is_missing (plan_of plan)) (widened (plan_of plan)) others cs (datum_of w) rest e)) ∙ opened

  pub each_fails : (fault : PqFault) → FailsMeant fault (taken_for (is_missing (plan_of plan)) (widened (plan_of plan)) cs) → FailsMeant fault all
  each_fails fault bad =
      fails_same fault (taken_for (is_missing (plan_of plan)) (widened (plan_of plan)) cs) all
      (λ e. sym opened ∙ ap (cells_then (cells_of done)) (next_none (is_missing (plan_of plan)) (widened (plan_of plan)) (widened_each (plans_of (drop (i + 1) plans))) cs e)) bad

pub each_done : (plans : List code.Plan) (i : ℕ) (done : List Cell) (cs : Cells) (all : Option Cells) → length plans ≤ i → cells_then (cells_of done) (widened_each (plans_of (drop i plans)) cs) ≡ all
    → all ≡ Some (cells_of done)
each_done plans i done cs all h left =
    let e : cells_then (cells_of done) (Some no_cells) ≡ all = rw (drop_all i plans h) at left in
    sym e ∙ ap Some (appended_nothing (cells_of done))

pub turned_done : (done : Cells) (all : Option Cells) → cells_then done (Some no_cells) ≡ all → all ≡ Some done
turned_done done all left = sym left ∙ ap Some (appended_nothing done)

-- ---- entries of maps

pub triple_is : (turn : Datum → Option Datum) (d key w : Datum) (own : Option Datum) → key_and_value d ≡ Some (key, own) → value_for turn own ≡ Some w
    → pair_of turn d ≡ Some (group (one_cell key (one_cell w no_cells)))
triple_is turn d key w own e f = pair_parts turn d ∙ rw (e, f) refl

pub entry_fails : (turn : Datum → Option Datum) (d key : Datum) (own : Option Datum) (fault : PqFault) → key_and_value d ≡ Some (key, own) → FailsMeant fault (value_for turn own) → FailsMeant fault (pair_of turn d)
entry_fails turn d key own fault e bad = fails_same fault (value_for turn own) (pair_of turn d) (λ f. pair_parts turn d ∙ rw (e, f) refl) bad

pub no_entry : (turn : Datum → Option Datum) (d : Datum) → key_and_value d ≡ None → pair_of turn d ≡ None
no_entry turn d e = pair_parts turn d ∙ rw e refl

abbrev triple_of : Option Datum → Option Datum → Option Datum → Option (Datum × Option Datum)
triple_of (Some (atom k)) value None = Some (atom k, value)
triple_of key value third = None

entry_by : (cs : Cells) → key_and_value (group cs) ≡ triple_of (first_cell cs).0 (first_cell (first_cell cs).1).0 (first_cell (first_cell (first_cell cs).1).1).0
entry_by no_cells = refl
entry_by (one_cell null cs) = refl
entry_by (one_cell (group ds) cs) = refl
entry_by (one_cell (list ds) cs) = refl
entry_by (one_cell (atom k) no_cells) = refl
entry_by (one_cell (atom k) (one_cell v no_cells)) = refl
entry_by (one_cell (atom k) (one_cell v (one_cell c cs))) = refl

module _ (cs a b d : Cells) (key : Cell) (value third : Option Cell) (e : first_cell cs ≡ (Some (datum_of key), a)) (f : first_cell a ≡ (option_map datum_of value, b))
    (g : first_cell b ≡ (option_map datum_of third, d)) where
  entry_read : key_and_value (group cs) ≡ triple_of (Some (datum_of key)) (option_map datum_of value) (option_map datum_of third)
  entry_read =
      entry_by cs ∙ ap (λ (x : Option Datum × Cells). triple_of x.0 (first_cell x.1).0 (first_cell (first_cell x.1).1).0) e
      ∙ ap (λ (x : Option Datum × Cells). triple_of (Some (datum_of key)) x.0 (first_cell x.1).0) f ∙ ap (λ (x : Option Datum × Cells). triple_of (Some (datum_of key)) (option_map datum_of value) x.0) g

  three_in : (t : Option Cell) → is_some t ≡ true → (k : Datum) (v : Option Datum) → None ≡ triple_of (Some k) v (option_map datum_of t)
  three_in None h k v = cc
  three_in (Some x) h null v = refl
  three_in (Some x) h (atom y) v = refl
  three_in (Some x) h (group y) v = refl
  three_in (Some x) h (list y) v = refl

  two_in : (t : Option Cell) → is_some t ≡ false → (k : Datum) (v : Option Datum) → is_atom k ≡ true → Some (k, v) ≡ triple_of (Some k) v (option_map datum_of t)
  two_in (Some x) h k v i = cc
  two_in None h null v i = cc
  two_in None h (atom y) v i = refl
  two_in None h (group y) v i = cc
  two_in None h (list y) v i = cc

  no_key : (k : Datum) (v t : Option Datum) → is_atom k ≡ false → None ≡ triple_of (Some k) v t
  no_key null v t i = refl
  no_key (atom y) v t i = cc
  no_key (group y) v t i = refl
  no_key (list y) v t i = refl

  pub too_many : is_some third ≡ true → None ≡ key_and_value (group cs)
  too_many h = three_in third h (datum_of key) (option_map datum_of value) ∙ sym entry_read

  pub null_key : is_atom (datum_of key) ≡ false → None ≡ key_and_value (group cs)
  null_key i = no_key (datum_of key) (option_map datum_of value) (option_map datum_of third) i ∙ sym entry_read

  pub whole_entry : is_some third ≡ false → is_atom (datum_of key) ≡ true → Some (datum_of key, option_map datum_of value) ≡ key_and_value (group cs)
  whole_entry h i = two_in third h (datum_of key) (option_map datum_of value) i ∙ sym entry_read

-- ---- rows

rows_then_push : (rows : List Row) (row : Row) (more : Option Cells) → cells_then (rows_of (rows ++ row ∷ [])) more ≡ cells_then (rows_of rows) (option_map (one_cell (row_of row)) more)
rows_then_push rows row None = refl
rows_then_push rows row (Some more) = ap Some (behind rows)
  where
    behind : (rs : List Row) → appended (rows_of (rs ++ row ∷ [])) more ≡ appended (rows_of rs) (one_cell (row_of row) more)
    behind [] = refl
    behind (x ∷ rs) = ap (one_cell (row_of x)) (behind rs)

module _ (plans : Plans) (done : List Row) (row : Row) (rest : Cells) (all : Option Cells) (left : cells_then (rows_of done) (rows_widened plans (one_cell (row_of row) rest)) ≡ all) where
  pub row_more : (w : Row) (now : List Row) → widened_each plans (cells_of row.cells.items) ≡ Some (cells_of w.cells.items) → now ≡ done ++ w ∷ [] → cells_then (rows_of now) (rows_widened plans rest) ≡ all
  row_more w now e pushed =
      ap (λ x. cells_then (rows_of x) (rows_widened plans rest)) pushed ∙ rows_then_push done w (rows_widened plans rest)
      ∙ ap (cells_then (rows_of done)) (sym (rw e (both_some (row_of w) (rows_widened plans rest)))) ∙ left

  pub row_fails : (fault : PqFault) → FailsMeant fault (widened_each plans (cells_of row.cells.items)) → FailsMeant fault all
  row_fails fault h = fails_same fault (widened_each plans (cells_of row.cells.items)) all (λ e. sym left ∙ rw e refl) h
