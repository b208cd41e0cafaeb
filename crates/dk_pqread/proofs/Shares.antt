-- The rows of a group are found of its columns, and only they.
use Rattle.std.proofs.Common.{◌≡◌, ℕ, zero, suc, ◌+◌, add-one, Bool, true, false, Option, Some, None, [], ◌∷◌, ◌++◌, List, length, Result, Ok, Err, refl, sym, ap, subst, ◌∙◌, arith}
use Rattle.std.specs.Prelude.{IfOk, IfErr, IsErrOf}
use Rattle.dk_levels.specs.Answers.{IsBrokenOrMemory}
use Rattle.dk_levels.specs.Solid.{AreReadable}
use Rattle.dk_levels.proofs.Again.{one_reading}
use Rattle.dk_pqmodel.specs.Shape.{Fields, no_fields, root}
use Rattle.dk_pqmodel.specs.Datum as datum
use Rattle.dk_pqmodel.specs.Datum.{Cells, no_cells, one_cell, Column, appended}
use Rattle.dk_pqmodel.specs.Fits.{AreTriplesOf, AreRowsOf}
use Rattle.dk_pqmodel.specs.Footer.{RowGroup, is_new_each}
use Rattle.dk_pqmodel.specs.FileMeans.{HasColumns, HasRows, columns_of, rows_in}
use Rattle.dk_pqmodel.specs.Projection.{missing, value, members, elements, entries, Plans, no_plans, one_plan, all_missing, projected_fields, rows_widened}
use Rattle.dk_pqmodel.specs.RowView.{row_of, rows_of}
use Rattle.dk_pqmodel.specs.Triples.{later_triples}
use Rattle.dk_pqmodel.specs.declared.row.Row.{Row}
use Rattle.dk_pqmodel.specs.declared.fault.PqFault.{PqFault}
use Rattle.dk_pqmodel.specs.declared.fault.PqFault.TheVariants.{NotParquet, Shape, Compressed, Encoding, Broken, OutOfMemory}
use Rattle.dk_pqread.specs.Cells.{cells_then}
use Rattle.dk_levels.specs.Answers.{GivesMeant}
use Rattle.dk_pqread.specs.Meanings.{RefusesMeaning, Finds}
use Rattle.dk_pqread.specs.RowsMeaning.{AddsRows, GroupMeans, empty_rows}
use Rattle.dk_pqread.proofs.Finding.{refuses_by, finds_given}
use Rattle.dk_pqread.proofs.Groups.{columns_once}
use Rattle.dk_pqread.proofs.OneList.{projected_missing, empty_rows_once}
use Rattle.dk_pqread.proofs.PartLaws.{none_is_not_some, some_is}

-- what assembling answers
pub joined_found : {X : Type 0} (view : X → Cells) (result : Result X PqFault) (fs : Fields) (columns : List Column)
    → IfOk result (λ v. AreTriplesOf fs (view v) columns) → (IsErrOf result Broken → (rows : Cells) → AreTriplesOf fs rows columns → ⊥) → IfErr result IsBrokenOrMemory
    → Finds view result (λ rows. AreTriplesOf fs rows columns)
joined_found view (Ok v) fs columns found broken faults = found
joined_found view (Err Broken) fs columns found broken faults = broken refl
joined_found view (Err OutOfMemory) fs columns found broken faults = tt
joined_found view (Err NotParquet) fs columns found broken faults = absurd faults
joined_found view (Err (Shape c)) fs columns found broken faults = absurd faults
joined_found view (Err (Compressed c n)) fs columns found broken faults = absurd faults
joined_found view (Err (Encoding c n)) fs columns found broken faults = absurd faults

pub rows_counted : (rows : List Row) → rows_in (rows_of rows) ≡ length rows
rows_counted [] = refl
rows_counted (row ∷ rows) = omega (arith, rows_counted rows)

module _ (before : List ℕ) (plans : Plans) (group : RowGroup) where
  pub columns_refused : (fault : PqFault) → RefusesMeaning fault (HasColumns before group (columns_of plans 0 0)) → RefusesMeaning fault (HasRows before plans group)
  columns_refused fault h = refuses_by fault (HasColumns before group (columns_of plans 0 0)) (HasRows before plans group) (λ rows g. (g.columns, g.held)) h

  module _ (distinct : is_new_each [] group.columns ≡ true) (columns : List Column) (held : HasColumns before group (columns_of plans 0 0) columns) where
    of_columns : (rows : Cells) → HasRows before plans group rows → AreTriplesOf (projected_fields plans) rows columns
    of_columns rows g = subst (λ cs. AreTriplesOf (projected_fields plans) rows cs) (columns_once before group distinct (columns_of plans 0 0) g.columns columns g.held held) g.triples

    pub join_refused : (fault : PqFault) → RefusesMeaning fault (λ rows. AreTriplesOf (projected_fields plans) rows columns) → RefusesMeaning fault (HasRows before plans group)
    join_refused fault h = refuses_by fault (λ rows. AreTriplesOf (projected_fields plans) rows columns) (HasRows before plans group) (λ rows g. (rows, of_columns rows g)) h

    module _ (rows : Cells) (triples : AreTriplesOf (projected_fields plans) rows columns) where
      pub share_found : rows_in rows ≡ group.rows → HasRows before plans group rows
      share_found count = record { columns = columns; held = held; triples = triples; count = count }

      pub other_count : AreReadable (projected_fields plans) → (rows_in rows ≡ group.rows → ⊥) → (others : Cells) → HasRows before plans group others → ⊥
      other_count readable differs others g =
          let same : others ≡ rows = one_reading (projected_fields plans) others rows columns readable (of_columns others g) triples in
          differs (ap rows_in (sym same) ∙ g.count)

-- ---- where the file has none of what is wanted

columns_missing : (plans : Plans) → all_missing plans ≡ true → (rep def : ℕ) → columns_of plans rep def ≡ []
columns_missing no_plans e rep def = refl
columns_missing (one_plan missing ps) e rep def = columns_missing ps e rep def
columns_missing (one_plan (value b kind path) ps) e rep def = cc
columns_missing (one_plan (members b qs) ps) e rep def = cc
columns_missing (one_plan (elements b p) ps) e rep def = cc
columns_missing (one_plan (entries b k path p) ps) e rep def = cc

empty_match : (n : ℕ) → AreRowsOf no_fields (empty_rows n)
empty_match zero = tt
empty_match (suc n) = (tt, empty_match n)

empty_triples : (n : ℕ) → later_triples (empty_rows n) (root no_fields) 0 0 ≡ []
empty_triples zero = refl
empty_triples (suc n) = empty_triples n

empty_count : (n : ℕ) → rows_in (empty_rows n) ≡ n
empty_count zero = refl
empty_count (suc n) = omega (arith, empty_count n)

pub empty_share : (before : List ℕ) (plans : Plans) (group : RowGroup) (rows : Cells) → all_missing plans ≡ true → rows ≡ empty_rows group.rows → HasRows before plans group rows
empty_share before plans group rows gone is =
    subst (HasRows before plans group) (sym is)
    record {
      columns = [];
      held = subst (λ cs. HasColumns before group cs []) (sym (columns_missing plans gone 0 0)) tt;
      triples = subst (λ fs. AreTriplesOf fs (empty_rows group.rows) []) (sym (projected_missing plans gone)) (empty_match group.rows, sym (empty_triples group.rows));
      count = empty_count group.rows;
    }

rows_push : (rows : List Row) (row : Row) → rows_of (rows ++ row ∷ []) ≡ appended (rows_of rows) (one_cell (row_of row) no_cells)
rows_push [] row = refl
rows_push (x ∷ rows) row = ap (one_cell (row_of x)) (rows_push rows row)

empty_last : (n : ℕ) → appended (empty_rows n) (one_cell (datum.group no_cells) no_cells) ≡ empty_rows (suc n)
empty_last zero = refl
empty_last (suc n) = ap (one_cell (datum.group no_cells)) (empty_last n)

pub empty_more : (rows now : List Row) (row : Row) (n : ℕ) → rows_of rows ≡ empty_rows n → row_of row ≡ datum.group no_cells → now ≡ rows ++ row ∷ [] → rows_of now ≡ empty_rows (n + 1)
empty_more rows now row n done empty pushed =
    rw add-one
    (ap rows_of pushed ∙ rows_push rows row ∙ ap (λ x. appended x (one_cell (row_of row) no_cells)) done ∙ ap (λ c. appended (empty_rows n) (one_cell c no_cells)) empty ∙ empty_last n)

-- ---- a group has at most one list of rows

module _ (before : List ℕ) (plans : Plans) (group : RowGroup) (distinct : is_new_each [] group.columns ≡ true) (readable : all_missing plans ≡ false → AreReadable (projected_fields plans)) where
  share_once : (a b : Cells) → HasRows before plans group a → HasRows before plans group b → a ≡ b
  share_once a b f g = by_plans (all_missing plans) refl
    where
      by_plans : (lacks : Bool) → all_missing plans ≡ lacks → a ≡ b
      by_plans false e = one_reading (projected_fields plans) a b f.columns (readable e) f.triples (of_columns before plans group distinct f.columns f.held b g)
      by_plans true e =
          let none = projected_missing plans e in
          empty_rows_once a b (subst (λ fs. AreRowsOf fs a) none f.triples.0) (subst (λ fs. AreRowsOf fs b) none g.triples.0) (f.count ∙ sym g.count)

  -- where a group has no rows, none are added
  pub own_refused : (done : Cells) (fault : PqFault) → RefusesMeaning fault (HasRows before plans group) → RefusesMeaning fault (AddsRows done (GroupMeans before plans group))
  own_refused done fault h = refuses_by fault (HasRows before plans group) (AddsRows done (GroupMeans before plans group)) (λ rows (more, after, one). (one.own, one.share)) h

  -- those that are made of the group's own are added
  pub own_added : {X : Type 0} (view : X → Cells) (result : Result X PqFault) (done own : Cells) → HasRows before plans group own → GivesMeant view result (cells_then done (rows_widened plans own))
      → Finds view result (AddsRows done (GroupMeans before plans group))
  own_added view result done own share h = finds_given view result (cells_then done (rows_widened plans own)) (AddsRows done (GroupMeans before plans group)) sound never h
    where
      added : (rows : Cells) (o : Option Cells) → rows_widened plans own ≡ o → cells_then done o ≡ Some rows → AddsRows done (GroupMeans before plans group) rows
      added rows None e f = absurd (none_is_not_some rows f)
      added rows (Some more) e f = (more, sym (some_is (appended done more) rows f), record { own = own; share = share; widened = e })

      sound : (rows : Cells) → cells_then done (rows_widened plans own) ≡ Some rows → AddsRows done (GroupMeans before plans group) rows
      sound rows e = added rows (rows_widened plans own) refl e

      never : cells_then done (rows_widened plans own) ≡ None → (rows : Cells) → AddsRows done (GroupMeans before plans group) rows → ⊥
      never e rows (more, after, one) =
          let same : one.own ≡ own = share_once one.own own one.share share in
          let some : cells_then done (rows_widened plans own) ≡ Some (appended done more) = ap (λ x. cells_then done (rows_widened plans x)) (sym same) ∙ ap (cells_then done) one.widened in
          none_is_not_some (appended done more) (sym e ∙ some)
