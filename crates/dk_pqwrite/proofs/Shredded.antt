-- The triples of rows that fit a schema, and aren't too heavy, are written as its columns.
use Rattle.std.proofs.Common.{◌≡◌, ◌≤◌, ◌<◌, ◌^◌, ℕ, ◌+◌, true, false, None, List, [], ◌∷◌, length, map, replicate, refl, sym, subst, arith}
use Rattle.std.proofs.lemmas.Bool.{false≢true}
use Rattle.dk_pqmodel.specs.Shape.{Shape, leaf, map_of, Field, field, Fields, no_fields, one_field, width_of, entry, root}
use Rattle.dk_pqmodel.specs.Shape as shape
use Rattle.dk_pqmodel.specs.Datum.{Datum, null, atom, group, list, Cells, no_cells, one_cell, Column, single_triple}
use Rattle.dk_pqmodel.specs.FileMeans.{columns_of, rows_in}
use Rattle.dk_pqmodel.specs.FilePages.{ColumnAt}
use Rattle.dk_pqmodel.specs.Fits.{fits_leaf, CellBy, EachBy, AllBy, Fit}
use Rattle.dk_pqmodel.specs.RowView.{rows_of}
use Rattle.dk_pqmodel.specs.Schema.{IsSchema}
use Rattle.dk_pqmodel.specs.Triples.{empty_columns, nothing, reached, cell_triples, group_triples, list_triples, later_triples, triples}
use Rattle.dk_pqmodel.specs.Weight.{weight_in, weight_of, weight, most_weight}
use Rattle.dk_pqmodel.specs.declared.row.Row.{Row}
use Rattle.dk_pqwrite.specs.OverItself.{own_plans}
use Rattle.dk_pqwrite.specs.Shredded.{AreWritable}
use Rattle.dk_pqwrite.proofs.BareColumns.{bare_columns_at, bare_columns_in, bare_columns_of, bare_entry, without_path, bare_plans, count_at, count_each, further, no_less, beyond_at}
use Rattle.dk_pqwrite.proofs.Names.{each_map}
use Rattle.dk_pqwrite.proofs.Suiting.{suits_value, AllSuit, all_more, all_empty, all_nothing, all_beside, NoneOrSuit, none_or_suit, joined_suit, suits_writable}

-- nothing stands below the level of what is inside
nothing_suits : (s : Shape) (r d k e : ℕ) → r ≤ k → d < e → AllSuit 16 (bare_columns_at s k e) (nothing s r d)
nothing_suits s r d k e lists below =
    subst (λ n. AllSuit 16 (bare_columns_at s k e) (replicate n (single_triple r d None))) (count_at s k e)
    (all_nothing r d (bare_columns_at s k e) (each_map (further r k (d + 1) e lists (omega (arith, below))) (bare_columns_at s k e) (beyond_at s k e)))

mutual
  cell_suits : (c : Datum) (f : Field) (r d k : ℕ) → r ≤ k → CellBy fits_leaf c f → AllSuit (weight_in c) (bare_columns_in f k d) (cell_triples c f r d k)
  cell_suits null (field name true s) r d k le h = nothing_suits s r d k (d + 1) le (omega arith)
  cell_suits null (field name false s) r d k le h = absurd (false≢true h)
  cell_suits (atom v) (field name b (leaf l)) r d k le h = (suits_value l v r (reached (field name b (leaf l)) d) k le h, tt)
  cell_suits (atom v) (field name b (shape.group fs)) r d k le h = absurd h
  cell_suits (atom v) (field name b (shape.list f)) r d k le h = absurd h
  cell_suits (atom v) (field name b (map_of f)) r d k le h = absurd h
  cell_suits (group cs) (field name b (shape.group fs)) r d k le h =
      let e = reached (field name b (shape.group fs)) d in
      all_more (weight_of cs) (16 + weight_of cs) (bare_columns_of fs k e) (group_triples cs fs r e k) (omega arith) (group_suits cs fs r e k le h)
  cell_suits (group cs) (field name b (leaf l)) r d k le h = absurd h
  cell_suits (group cs) (field name b (shape.list f)) r d k le h = absurd h
  cell_suits (group cs) (field name b (map_of f)) r d k le h = absurd h
  cell_suits (list cs) (field name b (shape.list f)) r d k le h = list_suits cs f r (reached (field name b (shape.list f)) d) k le h
  cell_suits (list cs) (field name b (map_of f)) r d k le h =
      let e = reached (field name b (map_of f)) d in
      subst (λ columns. AllSuit (16 + weight_of cs) columns (list_triples cs (entry f) r e k)) (bare_entry f (k + 1) (e + 1)) (list_suits cs (entry f) r e k le h)
  cell_suits (list cs) (field name b (leaf l)) r d k le h = absurd h
  cell_suits (list cs) (field name b (shape.group fs)) r d k le h = absurd h

  group_suits : (cs : Cells) (fs : Fields) (r d k : ℕ) → r ≤ k → EachBy fits_leaf cs fs → AllSuit (weight_of cs) (bare_columns_of fs k d) (group_triples cs fs r d k)
  group_suits no_cells no_fields r d k le h = tt
  group_suits no_cells (one_field f fs) r d k le h = absurd h
  group_suits (one_cell c cs) no_fields r d k le h = absurd h
  group_suits (one_cell c cs) (one_field f fs) r d k le h =
      all_beside (weight_in c) (weight_of cs) (bare_columns_in f k d) (bare_columns_of fs k d) (cell_triples c f r d k) (group_triples cs fs r d k)
      (cell_suits c f r d k le h.0) (group_suits cs fs r d k le h.1)

  list_suits : (cs : Cells) (f : Field) (r d k : ℕ) → r ≤ k → AllBy fits_leaf cs f → AllSuit (16 + weight_of cs) (bare_columns_in f (k + 1) (d + 1)) (list_triples cs f r d k)
  list_suits no_cells (field name b s) r d k le h =
      nothing_suits s r d (k + 1) (reached (field name b s) (d + 1)) (omega (arith, le)) (omega (arith, no_less name b s (d + 1)))
  list_suits (one_cell c cs) f r d k le h =
      let columns = bare_columns_in f (k + 1) (d + 1) in
      all_more (weight_in c + weight_of cs) (16 + (weight_in c + weight_of cs)) columns (list_triples (one_cell c cs) f r d k) (omega arith)
      (joined_suit (weight_in c) (weight_of cs) columns (cell_triples c f r (d + 1) (k + 1)) (later_triples cs f (d + 1) (k + 1))
      (cell_suits c f r (d + 1) (k + 1) (omega (arith, le)) h.0) (later_suit cs f (d + 1) (k + 1) h.1))

  later_suit : (cs : Cells) (f : Field) (d k : ℕ) → AllBy fits_leaf cs f → NoneOrSuit (weight_of cs) (bare_columns_in f k d) (later_triples cs f d k)
  later_suit no_cells f d k h = tt
  later_suit (one_cell c cs) f d k h =
      none_or_suit (weight_in c + weight_of cs) (bare_columns_in f k d) (later_triples (one_cell c cs) f d k)
      (joined_suit (weight_in c) (weight_of cs) (bare_columns_in f k d) (cell_triples c f k d k) (later_triples cs f d k) (cell_suits c f k d k (omega arith) h.0) (later_suit cs f d k h.1))

-- ---- rows

-- a row is no cell, and weighs what its cells do
rows_suit : (rows : Cells) (fs : Fields) → Fit fs rows → NoneOrSuit (weight rows) (bare_columns_of fs 0 0) (later_triples rows (root fs) 0 0)
rows_suit no_cells fs h = tt
rows_suit (one_cell null rows) fs h = absurd (false≢true h.0)
rows_suit (one_cell (atom v) rows) fs h = absurd h.0
rows_suit (one_cell (list cs) rows) fs h = absurd h.0
rows_suit (one_cell (group cs) rows) fs h =
    none_or_suit (weight_of cs + weight rows) (bare_columns_of fs 0 0) (later_triples (one_cell (group cs) rows) (root fs) 0 0)
    (joined_suit (weight_of cs) (weight rows) (bare_columns_of fs 0 0) (group_triples cs fs 0 0 0) (later_triples rows (root fs) 0 0) (group_suits cs fs 0 0 0 (omega arith) h.0) (rows_suit rows fs h.1))

triples_suit : (fs : Fields) (rows : Cells) → Fit fs rows → AllSuit (0 + weight rows) (bare_columns_of fs 0 0) (triples fs rows)
triples_suit fs rows h =
    let columns = bare_columns_of fs 0 0 in
    let empty = subst (λ n. AllSuit 0 columns (empty_columns n)) (count_each fs 0 0) (all_empty columns) in
    joined_suit 0 (weight rows) columns (empty_columns (width_of fs)) (later_triples rows (root fs) 0 0) empty (rows_suit rows fs h)

all_writable : (most : ℕ) (cs : List ColumnAt) (ts : List Column) → most ≤ 2 ^ 30 → AllSuit most (map without_path cs) ts → AreWritable cs ts
all_writable most [] [] le h = tt
all_writable most [] (t ∷ ts) le h = absurd h
all_writable most (c ∷ cs) [] le h = absurd h
all_writable most (c ∷ cs) (t ∷ ts) le h = (suits_writable most c t le h.0, all_writable most cs ts le h.1)

pub shredded_writable : (fs : Fields) (rows : Cells) → IsSchema fs → Fit fs rows → weight rows ≤ most_weight → AreWritable (columns_of (own_plans fs []) 0 0) (triples fs rows)
shredded_writable fs rows is fit light =
    all_writable (0 + weight rows) (columns_of (own_plans fs []) 0 0) (triples fs rows) (omega (arith, light))
    (subst (λ columns. AllSuit (0 + weight rows) columns (triples fs rows)) (sym (bare_plans fs [] 0 0)) (triples_suit fs rows fit))

pub rows_counted : (rows : List Row) → rows_in (rows_of rows) ≡ length rows
rows_counted [] = refl
rows_counted (row ∷ rows) = omega (arith, rows_counted rows)
