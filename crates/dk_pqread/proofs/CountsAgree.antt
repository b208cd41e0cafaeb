-- Where a file means rows, its counts go together.
use Rattle.std.proofs.Common.{◌≡◌, ℕ, zero, suc, ◌+◌, ◌-◌, ◌≤◌, ◌⊎◌, inl, inr, true, Option, List, [], ◌∷◌, length, refl, sym, ap, subst, ◌∙◌, arith}
use Rattle.std.specs.List.{All, AllByRecursion, flat_map}
use Rattle.std.proofs.lemmas.Bool.{eq-eqb, le-leb, le-ltb, ne_eqb}
use Rattle.std.proofs.lemmas.List.{length-append}
use Rattle.std.proofs.lemmas.List.Elements.{recursion_from_All}
use Rattle.dk_pqmodel.specs.Datum.{Value, Cells, no_cells, one_cell, Triple, Column, appended}
use Rattle.dk_pqmodel.specs.FileMeans.{HasPages, HasTriples, HasColumn, HasColumns, HasRows, HaveRows, all_rows, columns_of, rows_in}
use Rattle.dk_pqmodel.specs.FilePages.{ColumnAt, AreData, IsData}
use Rattle.dk_pqmodel.specs.Footer.{Chunk, RowGroup}
use Rattle.dk_pqmodel.specs.Projection.{Plans, projected_fields}
use Rattle.dk_pqread.specs.Counts.{may_have_triples, chunk_agrees, group_agrees, groups_agree, have_rows, counts_agree}
use Rattle.dk_pqread.proofs.DistinctPaths.{HasDistinctPaths}
use Rattle.dk_pqread.proofs.Groups.{chunk_only}
use Rattle.dk_pqread.specs.Starts.{zero_at, starts, Each}
use Rattle.dk_pqread.proofs.RowStarts.{starts_behind, triples_start}

pub rows_more : (a b : Cells) → rows_in (appended a b) ≡ rows_in a + rows_in b
rows_more no_cells b = omega arith
rows_more (one_cell c a) b = omega (arith, rows_more a b)

-- ---- how many triples a column has

at_most_one : (n : ℕ) → zero_at n ≤ 1
at_most_one zero = omega arith
at_most_one (suc n) = omega arith

starts_few : (es : Column) → starts es ≤ length es
starts_few [] = omega arith
starts_few (e ∷ es) = omega (arith, at_most_one e.repetition, starts_few es)

at_zero : (n : ℕ) → n ≤ 0 → zero_at n ≡ 1
at_zero zero h = refl
at_zero (suc n) h = absurd (omega (arith, h))

-- where nothing repeats, each triple begins a row
starts_all : (es : Column) → AllByRecursion (λ e. e.repetition ≤ 0) es → starts es ≡ length es
starts_all [] h = refl
starts_all (e ∷ es) h = omega (arith, at_zero e.repetition h.0, starts_all es h.1)

none_starts : (es : Column) → length es ≡ 0 → starts es ≡ length es
none_starts [] h = refl
none_starts (e ∷ es) h = absurd (omega (arith, h))

module _ (column : ColumnAt) (flat : column.rep ≡ 0) where
  full_starts : (es : Column) → All (λ (e : Triple). e.repetition ≤ column.rep) es → starts es ≡ length es
  full_starts es h = starts_all es (recursion_from_All (λ (e : Triple). e.repetition ≤ 0) es (subst (λ n. All (λ (e : Triple). e.repetition ≤ n) es) flat h))

  data_starts : (dictionary : Option (List Value)) (bytes : List ℕ) (es : Column) → IsData column dictionary bytes es → starts es ≡ length es
  data_starts dictionary bytes es (inl page) = full_starts es page.triples_held.full.1
  data_starts dictionary bytes es (inr page) = full_starts es page.triples_held.full.1

  pages_start : (dictionary : Option (List Value)) (pages : List (List ℕ × Column)) → AreData column dictionary pages → starts (flat_map (λ x. x.1) pages) ≡ length (flat_map (λ x. x.1) pages)
  pages_start dictionary [] h = refl
  pages_start dictionary (x ∷ xs) h =
      let rest = flat_map (λ (y : List ℕ × Column). y.1) xs in
      omega (arith, starts_behind x.1 rest, length-append x.1 rest, data_starts dictionary x.0 x.1 h.0, pages_start dictionary xs h.1)

  chunk_starts : (before : List ℕ) (chunk : Chunk) (es : Column) → HasTriples before column chunk es → starts es ≡ length es
  chunk_starts before chunk es has = by_pages has.pages
    where
      by_pages : (chunk.values ≡ 0) ⊎ HasPages before column chunk es → starts es ≡ length es
      by_pages (inl none) = none_starts es (has.count ∙ none)
      by_pages (inr h) = subst (λ x. starts x ≡ length x) (sym h.joined) (pages_start h.dictionary h.pages h.read)

chunk_holds : (before : List ℕ) (column : ColumnAt) (chunk : Chunk) (es : Column) (rows : ℕ) → HasTriples before column chunk es → starts es ≡ rows → may_have_triples column.rep rows chunk.values ≡ true
chunk_holds before column chunk es rows has count = by_rep column.rep refl
  where
    by_rep : (n : ℕ) → column.rep ≡ n → may_have_triples column.rep rows chunk.values ≡ true
    by_rep zero e = subst (λ n. may_have_triples n rows chunk.values ≡ true) (sym e) (eq-eqb chunk.values rows (sym has.count ∙ sym (chunk_starts column e before chunk es has) ∙ count))
    by_rep (suc n) e = subst (λ k. may_have_triples k rows chunk.values ≡ true) (sym e) (rw (ne_eqb (suc n) 0 (λ same. omega (arith, same))) (le-leb rows chunk.values (omega (arith, has.count, starts_few es, count))))

-- ---- groups

module _ (before : List ℕ) where
  group_holds : (group : RowGroup) (cs : List ColumnAt) (ts : List Column) → HasDistinctPaths group → HasColumns before group cs ts → Each group.rows ts → group_agrees group cs ≡ true
  group_holds group [] [] distinct h each = refl
  group_holds group [] (t ∷ ts) distinct h each = absurd h
  group_holds group (c ∷ cs) [] distinct h each = absurd h
  group_holds group (c ∷ cs) (t ∷ ts) distinct h each =
      let has : HasColumn before group c t = h.0 in
      let found = ap (chunk_agrees c.rep group.rows) (chunk_only group.columns c.path has.0 distinct has.1) in
      rw (found, chunk_holds before c has.0 t group.rows has.2 each.0, group_holds group cs ts distinct h.1 each.1) refl

  module _ (plans : Plans) where
    groups_hold : (groups : List RowGroup) (shares : List Cells) → AllByRecursion HasDistinctPaths groups → HaveRows before plans groups shares → groups_agree (columns_of plans 0 0) groups ≡ true
    groups_hold [] [] distinct h = refl
    groups_hold [] (x ∷ shares) distinct h = absurd h
    groups_hold (g ∷ groups) [] distinct h = absurd h
    groups_hold (g ∷ groups) (x ∷ shares) distinct h =
        let has : HasRows before plans g x = h.0 in
        let each : Each g.rows has.columns = subst (λ n. Each n has.columns) has.count (triples_start (projected_fields plans) x has.columns has.triples) in
        rw (group_holds g (columns_of plans 0 0) has.columns distinct.0 has.held each, groups_hold groups shares distinct.1 h.1) refl

    rows_hold : (groups : List RowGroup) (shares : List Cells) (rows : ℕ) → HaveRows before plans groups shares → rows_in (all_rows shares) ≡ rows → have_rows rows groups ≡ true
    rows_hold [] [] rows h count = eq-eqb rows 0 (sym count)
    rows_hold [] (x ∷ shares) rows h count = absurd h
    rows_hold (g ∷ groups) [] rows h count = absurd h
    rows_hold (g ∷ groups) (x ∷ shares) rows h count =
        let has : HasRows before plans g x = h.0 in
        let more = rows_more x (all_rows shares) in
        let room : g.rows ≤ rows = omega (arith, has.count, more, count) in
        rw (le-ltb rows g.rows room) (rows_hold groups shares (rows - g.rows) h.1 (omega (arith, has.count, more, count)))

    pub counts_hold : (groups : List RowGroup) (shares : List Cells) (rows : ℕ) → All HasDistinctPaths groups → HaveRows before plans groups shares → rows_in (all_rows shares) ≡ rows
        → counts_agree (columns_of plans 0 0) groups rows ≡ true
    counts_hold groups shares rows distinct h count =
        rw (rows_hold groups shares rows h count, groups_hold groups shares (recursion_from_All HasDistinctPaths groups distinct) h) refl
