-- Each row begins in each column once, with the repetition level 0.
use Rattle.std.proofs.Common.{◌≡◌, ℕ, zero, suc, ◌+◌, ◌≤◌, Some, None, List, [], ◌∷◌, ◌++◌, length, replicate, refl, sym, subst, ◌∙◌, add-one, arith}
use Rattle.std.proofs.lemmas.List.{length-replicate}
use Rattle.dk_levels.proofs.Put.{length-cell_triples, length-later_triples}
use Rattle.dk_pqmodel.specs.Datum.{Value, Datum, null, atom, group, list, Cells, no_cells, one_cell, Column, single_triple}
use Rattle.dk_pqmodel.specs.FileMeans.{rows_in}
use Rattle.dk_pqmodel.specs.Fits.{AreTriplesOf, Matches, MatchEach, MatchAll}
use Rattle.dk_pqmodel.specs.Shape as shape
use Rattle.dk_pqmodel.specs.Shape.{Shape, Field, field, Fields, no_fields, one_field, entry, root, width_at, width_in}
use Rattle.dk_pqread.specs.Starts.{zero_at, starts, Each}
use Rattle.dk_pqmodel.specs.Triples.{columns_joined, empty_columns, cell_triples, group_triples, list_triples, later_triples, reached}

pub starts_behind : (a b : Column) → starts (a ++ b) ≡ starts a + starts b
starts_behind [] b = omega arith
starts_behind (e ∷ a) b = omega (arith, starts_behind a b)

each_behind : (n : ℕ) (cs bs : List Column) → Each n cs → Each n bs → Each n (cs ++ bs)
each_behind n [] bs h k = k
each_behind n (a ∷ cs) bs h k = (h.0, each_behind n cs bs h.1 k)

each_joined : (n m : ℕ) (cs bs : List Column) → length cs ≡ length bs → Each n cs → Each m bs → Each (n + m) (columns_joined cs bs)
each_joined n m [] [] same h k = tt
each_joined n m [] (b ∷ bs) same h k = absurd (omega (arith, same))
each_joined n m (a ∷ cs) [] same h k = absurd (omega (arith, same))
each_joined n m (a ∷ cs) (b ∷ bs) same h k = (omega (arith, starts_behind a b, h.0, k.0), each_joined n m cs bs (omega (arith, same)) h.1 k.1)

-- where no row begins in the columns behind
none_joined : (n : ℕ) (cs bs : List Column) → length bs ≤ length cs → Each n cs → Each 0 bs → Each n (columns_joined cs bs)
none_joined n [] [] few h k = tt
none_joined n [] (b ∷ bs) few h k = absurd (omega (arith, few))
none_joined n (a ∷ cs) [] few h k = h
none_joined n (a ∷ cs) (b ∷ bs) few h k = (omega (arith, starts_behind a b, h.0, k.0), none_joined n cs bs (omega (arith, few)) h.1 k.1)

each_nothing : (width r d : ℕ) → Each (zero_at r) (replicate width (single_triple r d None))
each_nothing zero r d = tt
each_nothing (suc width) r d = (omega arith, each_nothing width r d)

on_leaf : (v : Value) (s : Shape) (r d : ℕ) → Each (zero_at r) (single_triple r d (Some v) ∷ [])
on_leaf v s r d = (omega arith, tt)

above_zero : (k : ℕ) → zero_at (k + 1) ≡ 0
above_zero k = rw add-one refl

mutual
  cell_starts : (c : Datum) (f : Field) (r d k : ℕ) → Matches c f → Each (zero_at r) (cell_triples c f r d k)
  cell_starts null (field name b s) r d k h = each_nothing (width_at s) r d
  cell_starts (atom v) (field name b s) r d k h = on_leaf v s r (reached (field name b s) d)
  cell_starts (group cs) (field name b (shape.group fs)) r d k h = group_starts cs fs r _ k h
  cell_starts (list cs) (field name b (shape.list f)) r d k h = list_starts cs f r _ k h
  cell_starts (list cs) (field name b (shape.map_of f)) r d k h = list_starts cs (entry f) r _ k h
  cell_starts (group cs) (field name b (shape.leaf l)) r d k h = absurd h
  cell_starts (group cs) (field name b (shape.list f)) r d k h = absurd h
  cell_starts (group cs) (field name b (shape.map_of f)) r d k h = absurd h
  cell_starts (list cs) (field name b (shape.leaf l)) r d k h = absurd h
  cell_starts (list cs) (field name b (shape.group fs)) r d k h = absurd h

  group_starts : (cs : Cells) (fs : Fields) (r d k : ℕ) → MatchEach cs fs → Each (zero_at r) (group_triples cs fs r d k)
  group_starts no_cells no_fields r d k h = tt
  group_starts no_cells (one_field f fs) r d k h = absurd h
  group_starts (one_cell c cs) no_fields r d k h = absurd h
  group_starts (one_cell c cs) (one_field f fs) r d k h =
      each_behind (zero_at r) (cell_triples c f r d k) (group_triples cs fs r d k) (cell_starts c f r d k h.0) (group_starts cs fs r d k h.1)

  list_starts : (cs : Cells) (f : Field) (r d k : ℕ) → MatchAll cs f → Each (zero_at r) (list_triples cs f r d k)
  list_starts no_cells (field name b s) r d k h = each_nothing (width_at s) r d
  list_starts (one_cell c cs) f r d k h =
      none_joined (zero_at r) (cell_triples c f r (d + 1) (k + 1)) (later_triples cs f (d + 1) (k + 1))
      (omega (arith, length-cell_triples c f r (d + 1) (k + 1) h.0, length-later_triples cs f (d + 1) (k + 1) h.1)) (cell_starts c f r (d + 1) (k + 1) h.0) (later_starts cs f (d + 1) (k + 1) (above_zero k) h.1)

  -- later elements begin no row
  later_starts : (cs : Cells) (f : Field) (d k : ℕ) → zero_at k ≡ 0 → MatchAll cs f → Each 0 (later_triples cs f d k)
  later_starts no_cells f d k none h = tt
  later_starts (one_cell c cs) f d k none h =
      none_joined 0 (cell_triples c f k d k) (later_triples cs f d k) (omega (arith, length-cell_triples c f k d k h.0, length-later_triples cs f d k h.1))
      (subst (λ n. Each n (cell_triples c f k d k)) none (cell_starts c f k d k h.0)) (later_starts cs f d k none h.1)

-- the columns of some rows
rows_start : (row : Datum) (rows : Cells) (f : Field) → MatchAll (one_cell row rows) f → Each (rows_in (one_cell row rows)) (later_triples (one_cell row rows) f 0 0) × (length (later_triples (one_cell row rows) f 0 0) ≡ width_in f)
rows_start row no_cells f h = (each_first (cell_triples row f 0 0 0) (cell_starts row f 0 0 0 h.0), same (cell_triples row f 0 0 0) (length-cell_triples row f 0 0 0 h.0))
  where
    each_first : (cs : List Column) → Each 1 cs → Each 1 (columns_joined cs [])
    each_first [] k = tt
    each_first (a ∷ cs) k = k

    same : (cs : List Column) → length cs ≡ width_in f → length (columns_joined cs []) ≡ width_in f
    same [] e = e
    same (a ∷ cs) e = e
rows_start row (one_cell next rows) f h =
    let first = length-cell_triples row f 0 0 0 h.0 in
    let rest = rows_start next rows f h.1 in (
      each_joined 1 (rows_in (one_cell next rows)) (cell_triples row f 0 0 0) (later_triples (one_cell next rows) f 0 0) (first ∙ sym rest.1) (cell_starts row f 0 0 0 h.0) rest.0,
      long (cell_triples row f 0 0 0) (later_triples (one_cell next rows) f 0 0) (width_in f) first rest.1,
    )
  where
    long : (cs bs : List Column) (n : ℕ) → length cs ≡ n → length bs ≡ n → length (columns_joined cs bs) ≡ n
    long [] bs n e g = g
    long (a ∷ cs) [] n e g = e
    long (a ∷ cs) (b ∷ bs) zero e g = absurd (omega (arith, e))
    long (a ∷ cs) (b ∷ bs) (suc n) e g = omega (arith, long cs bs n (omega (arith, e)) (omega (arith, g)))

each_empty : (width : ℕ) → Each 0 (columns_joined (empty_columns width) [])
each_empty zero = tt
each_empty (suc width) = (refl, none width)
  where
    none : (width : ℕ) → Each 0 (empty_columns width)
    none zero = tt
    none (suc width) = (refl, none width)

each_none : (width : ℕ) → Each 0 (empty_columns width)
each_none zero = tt
each_none (suc width) = (refl, each_none width)

-- So many rows begin in each column cs there are rows.
pub triples_start : (fs : Fields) (rows : Cells) (columns : List Column) → AreTriplesOf fs rows columns → Each (rows_in rows) columns
triples_start fs no_cells columns h = subst (Each 0) (sym h.1) (each_empty (width_in (root fs)))
triples_start fs (one_cell row rows) columns h =
    let all = rows_start row rows (root fs) h.0 in
    let count = rows_in (one_cell row rows) in
    let none : 0 + count ≡ count = omega arith in
    let columns_are = later_triples (one_cell row rows) (root fs) 0 0 in
    subst (Each count) (sym h.1)
    (subst (λ n. Each n (columns_joined (empty_columns (width_in (root fs))) columns_are)) none
    (each_joined 0 count (empty_columns (width_in (root fs))) columns_are (length-replicate _ _ ∙ sym all.1) (each_none (width_in (root fs))) all.0))
