-- What `put` and its kin need of cells that fit.
use Rattle.std.proofs.Common.{◌≡◌, ℕ, zero, suc, ◌+◌, ◌<◌, ◌≤◌, Bool, true, false, cond, List, [], ◌∷◌, ◌++◌, length, get_or, drop, rules, Vec, Box, Global, refl, sym, ap, ◌∙◌, arith, add-one, max, add-zero}
use Rattle.std.proofs.lemmas.List.{append-nil, length-append, length-replicate, length-map, drop_all}
use Rattle.dk_pqmodel.specs.Shape.{Shape, Field, Fields, field, no_fields, one_field, width_at, width_in, width_of, deepest_in, deepest_of, entry, key, root}
use Rattle.dk_pqmodel.specs.Shape as shape
use Rattle.dk_pqmodel.specs.Datum.{Value, Datum, null, atom, group, list, Cells, no_cells, one_cell, Column}
use Rattle.dk_pqmodel.specs.Triples.{columns_joined, reached, cell_triples, group_triples, list_triples, later_triples}
use Rattle.dk_pqmodel.specs.Fits.{Matches, MatchEach, MatchAll}
use Rattle.dk_pqmodel.specs.NodeView.{field_of, fields_of}
use Rattle.dk_pqmodel.specs.RowView.{datum_of, cells_of, rows_of}
use Rattle.dk_levels.specs.Borrowed.{borrowed_columns, borrowed_column}
use Rattle.dk_pqmodel.specs.declared.node.Node.{Node}
use Rattle.dk_pqmodel.specs.declared.node.NodeKind as node
use Rattle.dk_pqmodel.specs.declared.row.Cell.{Cell, the_lemmas}
use Rattle.dk_pqmodel.specs.declared.row.Cell as cell
use Rattle.dk_levels.specs.declared.borrowed.BorrowedTriple.{BorrowedTriple}
use Rattle.dk_pqmodel.specs.declared.row.Row.{Row}
use Rattle.dk_levels.specs.Places.{from, Adds}
use Rattle.dk_levels.proofs.Joins.{length-joined, adds_again, adds_beside, joined-nothing}
use Rattle.dk_pqmodel.proofs.NodeViews.{field_of-is, fields_of-drop, shape_of-List, shape_of-Map}
use Rattle.dk_levels.proofs.Pending.{Pending, GroupPending, LaterPending, RowsPending, pending_step, pending_ends, joined-empties}

pub datum_of-List : (v : Vec Cell Global) → datum_of (cell.List v) ≡ list (cells_of v.items)
datum_of-List v = search (rules, the_lemmas)

-- ---- a list's cells

pub into_list : (n : Node) (b : Box Node Global) (c : Cell) (v : Vec Cell Global) → n.kind ≡ node.List b → c ≡ cell.List v
    → Matches (datum_of c) (field_of n) → MatchAll (cells_of v.items) (field_of b.value)
into_list n b c v e i h = rw (i, datum_of-List v, field_of-is n, e, shape_of-List b) at h

pub into_map : (n : Node) (b : Box Node Global) (c : Cell) (v : Vec Cell Global) → n.kind ≡ node.Map b → c ≡ cell.List v
    → Matches (datum_of c) (field_of n) → MatchAll (cells_of v.items) (entry (field_of b.value))
into_map n b c v e i h = rw (i, datum_of-List v, field_of-is n, e, shape_of-Map b) at h

pub width-List : (n : Node) (b : Box Node Global) → n.kind ≡ node.List b → width_in (field_of n) ≡ width_in (field_of b.value)
width-List n b e = rw (field_of-is n, e, shape_of-List b) refl

pub width-Map : (n : Node) (b : Box Node Global) → n.kind ≡ node.Map b → width_in (field_of n) ≡ 1 + width_in (field_of b.value)
width-Map n b e = rw (field_of-is n, e, shape_of-Map b) refl

reach_deep : (b : Bool) (d r x : ℕ) → d + (cond b 1 0 + x) < 256 → r ≡ cond b (d + 1) d → r + x < 256
reach_deep true d r x h e = omega arith
reach_deep false d r x h e = omega arith

pub deep-List : (n : Node) (b : Box Node Global) (d r : ℕ) → n.kind ≡ node.List b → d + deepest_in (field_of n) < 256 → r ≡ reached (field_of n) d
    → r + (1 + deepest_in (field_of b.value)) < 256
deep-List n b d r e h i =
    reach_deep n.nullable d r _ (rw (field_of-is n, e, shape_of-List b) at h) (rw (field_of-is n) at i)

pub deep-Map : (n : Node) (b : Box Node Global) (d r : ℕ) → n.kind ≡ node.Map b → d + deepest_in (field_of n) < 256 → r ≡ reached (field_of n) d
    → r + (1 + deepest_in (field_of b.value)) < 256
deep-Map n b d r e h i =
    reach_deep n.nullable d r _ (rw (field_of-is n, e, shape_of-Map b) at h) (rw (field_of-is n) at i)

pub reached_above : (f : Field) (d : ℕ) → d ≤ reached f d
reached_above (field name true s) d = omega arith
reached_above (field name false s) d = omega arith

pub lists_below : (f : Field) (d r k : ℕ) → k ≤ d → r ≡ reached f d → k ≤ r
lists_below f d r k h e = omega (arith, reached_above f d)

-- ---- how many columns a cell has

on_leaf : (v : Value) (s : Shape) → Matches (atom v) (field [] false s) → 1 ≡ width_at s
on_leaf v (shape.leaf l) h = refl
on_leaf v (shape.group fs) h = absurd h
on_leaf v (shape.list f) h = absurd h
on_leaf v (shape.map_of f) h = absurd h

mutual
  pub length-cell_triples : (c : Datum) (f : Field) (r d k : ℕ) → Matches c f → length (cell_triples c f r d k) ≡ width_in f
  length-cell_triples null (field name b s) r d k h = length-replicate _ _
  length-cell_triples (atom v) (field name b s) r d k h = on_leaf v s h
  length-cell_triples (group cs) (field name b (shape.group fs)) r d k h = length-group_triples cs fs r _ k h
  length-cell_triples (list cs) (field name b (shape.list f)) r d k h = length-list_triples cs f r _ k h
  length-cell_triples (list cs) (field name b (shape.map_of f)) r d k h = length-list_triples cs (entry f) r _ k h ∙ ap (λ w. 1 + w) (add-zero _)
  length-cell_triples (group cs) (field name b (shape.leaf l)) r d k h = absurd h
  length-cell_triples (group cs) (field name b (shape.list f)) r d k h = absurd h
  length-cell_triples (group cs) (field name b (shape.map_of f)) r d k h = absurd h
  length-cell_triples (list cs) (field name b (shape.leaf l)) r d k h = absurd h
  length-cell_triples (list cs) (field name b (shape.group fs)) r d k h = absurd h

  pub length-group_triples : (cs : Cells) (fs : Fields) (r d k : ℕ) → MatchEach cs fs → length (group_triples cs fs r d k) ≡ width_of fs
  length-group_triples no_cells no_fields r d k h = refl
  length-group_triples no_cells (one_field f fs) r d k h = absurd h
  length-group_triples (one_cell c cs) no_fields r d k h = absurd h
  length-group_triples (one_cell c cs) (one_field f fs) r d k h =
      omega (arith, length-append (cell_triples c f r d k) (group_triples cs fs r d k), length-cell_triples c f r d k h.0, length-group_triples cs fs r d k h.1)

  pub length-list_triples : (cs : Cells) (f : Field) (r d k : ℕ) → MatchAll cs f → length (list_triples cs f r d k) ≡ width_in f
  length-list_triples no_cells (field name b s) r d k h = length-replicate _ _
  length-list_triples (one_cell c cs) f r d k h =
      length-joined (cell_triples c f r (d + 1) (k + 1)) (later_triples cs f (d + 1) (k + 1)) (width_in f)
      (omega (arith, length-cell_triples c f r (d + 1) (k + 1) h.0, length-later_triples cs f (d + 1) (k + 1) h.1)) (length-cell_triples c f r (d + 1) (k + 1) h.0)

  pub length-later_triples : (cs : Cells) (f : Field) (d k : ℕ) → MatchAll cs f → length (later_triples cs f d k) ≤ width_in f
  length-later_triples no_cells f d k h = omega arith
  length-later_triples (one_cell c cs) f d k h =
      let e = length-joined (cell_triples c f k d k) (later_triples cs f d k) (width_in f)
      (omega (arith, length-cell_triples c f k d k h.0, length-later_triples cs f d k h.1)) (length-cell_triples c f k d k h.0) in omega (arith, e)

-- ---- loops

cells_of-drop_suc : (cs : List Cell) (i : ℕ) (c : Cell) → i < length cs → c ≡ get_or cs i c → cells_of (drop i cs) ≡ one_cell (datum_of c) (cells_of (drop (suc i) cs))
cells_of-drop_suc [] i c h e = absurd (omega arith)
cells_of-drop_suc (m ∷ cs) zero c h e = ap (λ x. one_cell (datum_of x) (cells_of cs)) (sym e)
cells_of-drop_suc (m ∷ cs) (suc i) c h e = cells_of-drop_suc cs i c (omega arith) e

pub cells_of-drop : (cs : List Cell) (i : ℕ) (c : Cell) → i < length cs → c ≡ get_or cs i c → cells_of (drop i cs) ≡ one_cell (datum_of c) (cells_of (drop (i + 1) cs))
cells_of-drop cs i c h e = rw add-one (cells_of-drop_suc cs i c h e)

fit_each_within : (ns : List Node) (cs : List Cell) → MatchEach (cells_of cs) (fields_of ns) → length cs ≡ length ns
fit_each_within [] [] h = refl
fit_each_within [] (c ∷ cs) h = absurd h
fit_each_within (n ∷ ns) [] h = absurd h
fit_each_within (n ∷ ns) (c ∷ cs) h = omega (arith, fit_each_within ns cs h.1)

-- the next cell of a group
pub group_loop : (ns : List Node) (cs : List Cell) (i : ℕ) (n : Node) (c : Cell) (columns more : List (Vec BorrowedTriple Global)) (next after r d k end : ℕ) (total : List Column)
    → i < length ns → n ≡ get_or ns i n → i < length cs → c ≡ get_or cs i c
    → Adds next columns more (cell_triples (datum_of c) (field_of n) r d k) → after ≡ next + width_in (field_of n)
    → GroupPending columns next (drop i ns) (drop i cs) r d k total end
    → GroupPending more after (drop (i + 1) ns) (drop (i + 1) cs) r d k total end
group_loop ns cs i n c columns more next after r d k end total hn en hc ec added moved p =
    let es = cells_of-drop cs i c hc ec in
    let fs = fields_of-drop ns i n hn en in
    let fits : Matches (datum_of c) (field_of n) × MatchEach (cells_of (drop (i + 1) cs)) (fields_of (drop (i + 1) ns)) = rw (es, fs) at p.fits in
    let deep : d + max (deepest_in (field_of n)) (deepest_of (fields_of (drop (i + 1) ns))) < 256 = rw fs at p.deep in
    let pending : Pending columns next (cell_triples (datum_of c) (field_of n) r d k ++ group_triples (cells_of (drop (i + 1) cs)) (fields_of (drop (i + 1) ns)) r d k)
    (width_in (field_of n) + width_of (fields_of (drop (i + 1) ns))) total end = rw (es, fs) at p.pending in
    record {
      pending = pending_step columns more next after _ _ end _ _ total added moved (length-cell_triples (datum_of c) (field_of n) r d k fits.0) pending;
      fits = fits.1;
      deep = omega arith;
    }

pub group_within : (ns : List Node) (cs : List Cell) (i : ℕ) → MatchEach (cells_of cs) (fields_of ns) → i < length cs → i < length ns
group_within ns cs i h l = omega (arith, fit_each_within ns cs h)

pub group_ends : (ns : List Node) (cs : List Cell) (i : ℕ) (columns : List (Vec BorrowedTriple Global)) (next r d k end : ℕ) (total : List Column)
    → MatchEach (cells_of cs) (fields_of ns) → length cs ≤ i → end ≤ length columns → GroupPending columns next (drop i ns) (drop i cs) r d k total end → borrowed_columns columns ≡ total
group_ends ns cs i columns next r d k end total h l room p =
    let en : drop i ns ≡ [] = drop_all i ns (omega (arith, fit_each_within ns cs h)) in
    let ec : drop i cs ≡ [] = drop_all i cs l in
    let q : Pending columns next [] 0 total end = rw (en, ec) at p.pending in
    (pending_ends columns next end total q (omega (arith, q.ends))).0

-- the next element of a list
pub later_loop : (f : Field) (cs : List Cell) (i : ℕ) (c : Cell) (columns more : List (Vec BorrowedTriple Global)) (leaf r d k : ℕ) (total : List Column)
    → i < length cs → c ≡ get_or cs i c → r ≡ k → Adds leaf columns more (cell_triples (datum_of c) f r d k)
    → LaterPending columns leaf f (drop i cs) d k total → LaterPending more leaf f (drop (i + 1) cs) d k total
later_loop f cs i c columns more leaf r d k total h is e added p =
    let es = cells_of-drop cs i c h is in
    let fits : Matches (datum_of c) f × MatchAll (cells_of (drop (i + 1) cs)) f = rw es at p.fits in
    let are : columns_joined (borrowed_columns columns) (from leaf (columns_joined (cell_triples (datum_of c) f k d k) (later_triples (cells_of (drop (i + 1) cs)) f d k))) ≡ total = rw es at p.columns_are in
    record {
      columns_are = ap (λ x. columns_joined x (from leaf (later_triples (cells_of (drop (i + 1) cs)) f d k))) (added ∙ ap (λ j. columns_joined (borrowed_columns columns) (from leaf (cell_triples (datum_of c) f j d k))) e)
          ∙ adds_again leaf (borrowed_columns columns) _ _ ∙ are;
      fits = fits.1;
    }

pub later_ends : (f : Field) (cs : List Cell) (i : ℕ) (columns : List (Vec BorrowedTriple Global)) (leaf d k : ℕ) (total : List Column)
    → length cs ≤ i → leaf ≤ length columns → LaterPending columns leaf f (drop i cs) d k total → borrowed_columns columns ≡ total
later_ends f cs i columns leaf d k total h room p =
    let ec : drop i cs ≡ [] = drop_all i cs h in
    let are : columns_joined (borrowed_columns columns) (from leaf []) ≡ total = rw ec at p.columns_are in
    sym (joined-empties leaf (borrowed_columns columns) (omega (arith, length-map columns borrowed_column))) ∙ are

pub list_ends : (f : Field) (cs : List Cell) (c : Cell) (columns between more : List (Vec BorrowedTriple Global)) (leaf r d k : ℕ)
    → 0 < length cs → c ≡ get_or cs 0 c
    → Adds leaf columns between (cell_triples (datum_of c) f r (d + 1) (k + 1))
    → Adds leaf between more (later_triples (cells_of (drop 1 cs)) f (d + 1) (k + 1))
    → Adds leaf columns more (list_triples (cells_of cs) f r d k)
list_ends f cs c columns between more leaf r d k h is first others =
    rw (cells_of-drop cs 0 c h is)
    (others ∙ ap (λ x. columns_joined x (from leaf (later_triples (cells_of (drop 1 cs)) f (d + 1) (k + 1)))) first ∙ adds_again leaf (borrowed_columns columns) _ _)

-- ---- entries of a map

pub two_cells : (cs : List Cell) (f : Field) → MatchEach (cells_of cs) (one_field key (one_field f no_fields)) → length cs ≡ 2
two_cells [] f h = absurd h
two_cells (a ∷ []) f h = absurd h.1
two_cells (a ∷ b ∷ []) f h = refl
two_cells (a ∷ b ∷ c ∷ cs) f h = absurd h.1.1

-- ---- rows

rows_of-drop_suc : (rows : List Row) (i : ℕ) (row : Row) → i < length rows → row ≡ get_or rows i row → rows_of (drop i rows) ≡ one_cell (group (cells_of row.cells.items)) (rows_of (drop (suc i) rows))
rows_of-drop_suc [] i row h e = absurd (omega arith)
rows_of-drop_suc (m ∷ rows) zero row h e = ap (λ x. one_cell (group (cells_of x.cells.items)) (rows_of rows)) (sym e)
rows_of-drop_suc (m ∷ rows) (suc i) row h e = rows_of-drop_suc rows i row (omega arith) e

pub rows_loop : (fs : Fields) (rows : List Row) (i : ℕ) (row : Row) (columns more : List (Vec BorrowedTriple Global)) (total : List Column)
    → i < length rows → row ≡ get_or rows i row → Adds 0 columns more (group_triples (cells_of row.cells.items) fs 0 0 0)
    → RowsPending columns fs (drop i rows) total → RowsPending more fs (drop (i + 1) rows) total
rows_loop fs rows i row columns more total h is added p =
    let es : rows_of (drop i rows) ≡ one_cell (group (cells_of row.cells.items)) (rows_of (drop (i + 1) rows)) = rw add-one (rows_of-drop_suc rows i row h is) in
    let fits : MatchEach (cells_of row.cells.items) fs × MatchAll (rows_of (drop (i + 1) rows)) (root fs) = rw es at p.fits in
    let are : columns_joined (borrowed_columns columns) (from 0 (columns_joined (group_triples (cells_of row.cells.items) fs 0 0 0) (later_triples (rows_of (drop (i + 1) rows)) (root fs) 0 0))) ≡ total = rw es at p.columns_are in
    record {
      columns_are = ap (λ x. columns_joined x (from 0 (later_triples (rows_of (drop (i + 1) rows)) (root fs) 0 0))) added ∙ adds_again 0 (borrowed_columns columns) _ _ ∙ are;
      fits = fits.1;
    }

pub rows_end : (fs : Fields) (rows : List Row) (i : ℕ) (columns : List (Vec BorrowedTriple Global)) (total : List Column)
    → length rows ≤ i → RowsPending columns fs (drop i rows) total → borrowed_columns columns ≡ total
rows_end fs rows i columns total h p =
    let e : drop i rows ≡ [] = drop_all i rows h in
    let are : columns_joined (borrowed_columns columns) [] ≡ total = rw e at p.columns_are in
    sym (joined-nothing (borrowed_columns columns)) ∙ are

pub pair_ends : (cs : List Cell) (f : Field) (a b : Cell) (columns between more : List (Vec BorrowedTriple Global)) (leaf value r d k : ℕ)
    → MatchEach (cells_of cs) (one_field key (one_field f no_fields)) → a ≡ get_or cs 0 a → b ≡ get_or cs 1 b
    → Adds leaf columns between (cell_triples (datum_of a) key r d k) → value ≡ leaf + 1 → Adds value between more (cell_triples (datum_of b) f r d k)
    → Adds leaf columns more (group_triples (cells_of cs) (one_field key (one_field f no_fields)) r d k)
pair_ends [] f a b columns between more leaf value r d k h ea eb first moved second = absurd h
pair_ends (x ∷ []) f a b columns between more leaf value r d k h ea eb first moved second = absurd h.1
pair_ends (x ∷ y ∷ z ∷ cs) f a b columns between more leaf value r d k h ea eb first moved second = absurd h.1.1
pair_ends (x ∷ y ∷ []) f a b columns between more leaf value r d k h ea eb first moved second =
    let one : length (cell_triples (datum_of x) key r d k) ≡ 1 = length-cell_triples (datum_of x) key r d k h.0 in
    rw (append-nil (cell_triples (datum_of y) f r d k))
    (second ∙ ap (λ z. columns_joined (borrowed_columns between) (from value (cell_triples (datum_of z) f r d k))) eb
    ∙ ap (λ w. columns_joined (borrowed_columns between) (from w (cell_triples (datum_of y) f r d k))) moved
    ∙ ap (λ m. columns_joined m (from (leaf + 1) (cell_triples (datum_of y) f r d k))) (first ∙ ap (λ z. columns_joined (borrowed_columns columns) (from leaf (cell_triples (datum_of z) key r d k))) ea)
    ∙ adds_beside leaf 1 (borrowed_columns columns) _ _ one)
