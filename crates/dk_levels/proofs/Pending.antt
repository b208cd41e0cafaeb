-- What is still to be put, in a loop over the fields of a group.
use Rattle.std.proofs.Common.{◌≡◌, ℕ, zero, suc, ◌+◌, ◌<◌, ◌≤◌, List, [], ◌∷◌, ◌++◌, length, get_or, drop, map, refl, sym, ap, ◌∙◌, arith, Vec, Global, Box, None, replicate, append_assoc, add-zero, subst}
use Rattle.std.proofs.lemmas.List.{append-nil, replicate-append-replicate, length-replicate, length-map, drop_all, map-append}
use Rattle.dk_pqmodel.specs.Datum.{Column, single_triple}
use Rattle.dk_pqmodel.specs.Shape.{one_field, width_of, width_at, Field, Fields, deepest_of, shape_in, entry, root}
use Rattle.dk_pqmodel.specs.Triples.{columns_joined, empty_columns, nothing, group_triples, later_triples}
use Rattle.dk_pqmodel.specs.NodeView.{fields_of, field_of, shape_of}
use Rattle.dk_pqmodel.specs.RowView.{cells_of, rows_of}
use Rattle.dk_levels.specs.Borrowed.{borrowed_columns, borrowed_column, borrowed_triple}
use Rattle.dk_levels.specs.declared.borrowed.BorrowedTriple.{BorrowedTriple}
use Rattle.dk_pqmodel.specs.declared.row.Row.{Row}
use Rattle.dk_pqmodel.specs.declared.node.Node.{Node}
use Rattle.dk_pqmodel.specs.declared.node.NodeKind.{Map}
use Rattle.dk_pqmodel.specs.declared.row.Cell.{Cell}
use Rattle.dk_pqmodel.specs.Fits.{MatchEach, MatchAll}
use Rattle.dk_levels.specs.Places.{from, Adds}
use Rattle.dk_levels.proofs.Joins.{joined-nothing, adds_beside}
use Rattle.dk_pqmodel.proofs.NodeViews.{fields_of-drop, field_of-is, shape_of-Map}

-- once ts are put, width columns from next on, the columns are total, and the next place is end
pub record Pending (columns : List (Vec BorrowedTriple Global)) (next : ℕ) (ts : List Column) (width : ℕ) (total : List Column) (end : ℕ) : Type 0 where
  pub columns_are : columns_joined (borrowed_columns columns) (from next ts) ≡ total
  pub ends : next + width ≡ end

pub pending_begins : (cs : List (Vec BorrowedTriple Global)) (next : ℕ) (ts : List Column) (w : ℕ) → Pending cs next ts w (columns_joined (borrowed_columns cs) (from next ts)) (next + w)
pending_begins cs next ts w = record { columns_are = refl; ends = refl }

pub pending_step : (cs more : List (Vec BorrowedTriple Global)) (next after w v end : ℕ) (a b total : List Column)
    → Adds next cs more a → after ≡ next + w → length a ≡ w → Pending cs next (a ++ b) (w + v) total end → Pending more after b v total end
pending_step cs more next after w v end a b total added moved n p = record {
  columns_are = ap (λ x. columns_joined x (from after b)) added ∙ ap (λ k. columns_joined (columns_joined (borrowed_columns cs) (from next a)) (from k b)) moved ∙ adds_beside next w (borrowed_columns cs) a b n ∙ p.columns_are;
  ends = omega (arith, p.ends, moved);
}

pub joined-empties : (n : ℕ) (cs : List Column) → n ≤ length cs → columns_joined cs (from n []) ≡ cs
joined-empties zero cs h = joined-nothing cs
joined-empties (suc n) [] h = absurd (omega arith)
joined-empties (suc n) (c ∷ cs) h = cc (append-nil c, joined-empties n cs (omega arith))

pub pending_ends : (cs : List (Vec BorrowedTriple Global)) (next end : ℕ) (total : List Column) → Pending cs next [] 0 total end → next ≤ length cs → (borrowed_columns cs ≡ total) × (next ≡ end)
pending_ends cs next end total p h =
    (sym (joined-empties next (borrowed_columns cs) (omega (arith, length-map cs borrowed_column))) ∙ p.columns_are, omega (arith, p.ends))

-- a column for each leaf, all with one triple
pub nothing_step : (cs more : List (Vec BorrowedTriple Global)) (next after w v end : ℕ) (e : Column) (total : List Column)
    → Adds next cs more (replicate w e) → after ≡ next + w → Pending cs next (replicate (w + v) e) (w + v) total end → Pending more after (replicate v e) v total end
nothing_step cs more next after w v end e total added moved p =
    pending_step cs more next after w v end (replicate w e) (replicate v e) total added moved (length-replicate w e)
    (subst (λ ts. Pending cs next ts (w + v) total end) (sym (replicate-append-replicate w v e)) p)

pub nothing_loop : (ns : List Node) (i : ℕ) (n : Node) (cs more : List (Vec BorrowedTriple Global)) (next after end : ℕ) (e : Column) (total : List Column)
    → i < length ns → n ≡ get_or ns i n → Adds next cs more (replicate (width_at (shape_of n.kind)) e) → after ≡ next + width_at (shape_of n.kind)
    → Pending cs next (replicate (width_of (fields_of (drop i ns))) e) (width_of (fields_of (drop i ns))) total end
    → Pending more after (replicate (width_of (fields_of (drop (i + 1) ns))) e) (width_of (fields_of (drop (i + 1) ns))) total end
nothing_loop ns i n cs more next after end e total h is added moved p =
    nothing_step cs more next after (width_at (shape_of n.kind)) _ end e total added moved
    (subst (λ fs. Pending cs next (replicate (width_of fs) e) (width_of fs) total end)
    (fields_of-drop ns i n h is ∙ ap (λ f. one_field f (fields_of (drop (i + 1) ns))) (field_of-is n)) p)

pub nothing_ends : (ns : List Node) (i : ℕ) (cs : List (Vec BorrowedTriple Global)) (next end : ℕ) (e : Column) (total : List Column) → length ns ≤ i
    → Pending cs next (replicate (width_of (fields_of (drop i ns))) e) (width_of (fields_of (drop i ns))) total end → next + width_of (fields_of (drop i ns)) ≤ length cs → borrowed_columns cs ≡ total
nothing_ends ns i cs next end e total h p room =
    let none : drop i ns ≡ [] = drop_all i ns h in
    (pending_ends cs next end total (subst (λ ms. Pending cs next (replicate (width_of (fields_of ms)) e) (width_of (fields_of ms)) total end) none p) (omega arith)).0

-- the columns of a map: the key's, and the value's
pub nothing_map : (b : Box Node Global) (cs between more : List (Vec BorrowedTriple Global)) (leaf next : ℕ) (r d : ℕ)
    → Adds leaf cs between (single_triple r d None ∷ []) → next ≡ leaf + 1 → Adds next between more (nothing (shape_of b.value.kind) r d)
    → Adds leaf cs more (nothing (shape_of (Map b)) r d)
nothing_map b cs between more leaf next r d first moved rest =
    rw (shape_of-Map b, field_of-is b.value)
    (let p = pending_begins cs leaf (replicate (1 + width_at (shape_of b.value.kind)) (single_triple r d None)) (1 + width_at (shape_of b.value.kind)) in
    let q = nothing_step cs between leaf next 1 (width_at (shape_of b.value.kind)) _ (single_triple r d None) _ first moved p in
    rest ∙ q.columns_are)

-- cells that are still to be put, each into the columns of its node
pub record GroupPending (columns : List (Vec BorrowedTriple Global)) (next : ℕ) (nodes : List Node) (cells : List Cell) (r d k : ℕ) (total : List Column) (end : ℕ) : Type 0 where
  pub pending : Pending columns next (group_triples (cells_of cells) (fields_of nodes) r d k) (width_of (fields_of nodes)) total end
  pub fits : MatchEach (cells_of cells) (fields_of nodes)
  pub deep : d + deepest_of (fields_of nodes) < 256

-- elements that are still to be put behind one another
pub record LaterPending (columns : List (Vec BorrowedTriple Global)) (leaf : ℕ) (f : Field) (cells : List Cell) (d k : ℕ) (total : List Column) : Type 0 where
  pub columns_are : columns_joined (borrowed_columns columns) (from leaf (later_triples (cells_of cells) f d k)) ≡ total
  pub fits : MatchAll (cells_of cells) f

-- the same of an entry
pub nothing_entry : (n : Node) (cs between more : List (Vec BorrowedTriple Global)) (leaf next : ℕ) (r d : ℕ)
    → Adds leaf cs between (single_triple r d None ∷ []) → next ≡ leaf + 1 → Adds next between more (nothing (shape_of n.kind) r d)
    → Adds leaf cs more (nothing (shape_in (entry (field_of n))) r d)
nothing_entry n cs between more leaf next r d first moved rest =
    rw (field_of-is n)
    (let p = pending_begins cs leaf (replicate (1 + (width_at (shape_of n.kind) + 0)) (single_triple r d None)) (1 + (width_at (shape_of n.kind) + 0)) in
    let q = nothing_step cs between leaf next 1 (width_at (shape_of n.kind) + 0) _ (single_triple r d None) _ first moved p in
    rest ∙ ap (λ w. columns_joined (borrowed_columns between) (from next (replicate w (single_triple r d None)))) (sym (add-zero _)) ∙ q.columns_are)

-- rows that are still to be put behind one another
pub record RowsPending (columns : List (Vec BorrowedTriple Global)) (fields : Fields) (rows : List Row) (total : List Column) : Type 0 where
  pub columns_are : columns_joined (borrowed_columns columns) (from 0 (later_triples (rows_of rows) (root fields) 0 0)) ≡ total
  pub fits : MatchAll (rows_of rows) (root fields)

-- empty columns

pub add_one : (cs more : List (Vec BorrowedTriple Global)) (v : Vec BorrowedTriple Global) → v.items ≡ [] → more ≡ cs ++ v ∷ [] → borrowed_columns more ≡ borrowed_columns cs ++ empty_columns 1
add_one cs more v e h = ap borrowed_columns h ∙ map-append borrowed_column cs (v ∷ []) ∙ ap (λ items. borrowed_columns cs ++ map borrowed_triple items ∷ []) e

pub add_loop : (ns : List Node) (i : ℕ) (n : Node) (cs more : List (Vec BorrowedTriple Global)) (total : List Column)
    → i < length ns → n ≡ get_or ns i n → borrowed_columns more ≡ borrowed_columns cs ++ empty_columns (width_at (shape_of n.kind))
    → borrowed_columns cs ++ empty_columns (width_of (fields_of (drop i ns))) ≡ total
    → borrowed_columns more ++ empty_columns (width_of (fields_of (drop (i + 1) ns))) ≡ total
add_loop ns i n cs more total h is added p =
    ap (λ x. x ++ empty_columns (width_of (fields_of (drop (i + 1) ns)))) added ∙ append_assoc (borrowed_columns cs) _ _
    ∙ ap (λ x. borrowed_columns cs ++ x) (replicate-append-replicate (width_at (shape_of n.kind)) (width_of (fields_of (drop (i + 1) ns))) [])
    ∙ sym (ap (λ fs. borrowed_columns cs ++ empty_columns (width_of fs)) (fields_of-drop ns i n h is ∙ ap (λ f. one_field f (fields_of (drop (i + 1) ns))) (field_of-is n))) ∙ p

pub add_map : (b : Box Node Global) (cs between more : List (Vec BorrowedTriple Global))
    → borrowed_columns between ≡ borrowed_columns cs ++ empty_columns 1 → borrowed_columns more ≡ borrowed_columns between ++ empty_columns (width_at (shape_of b.value.kind))
    → borrowed_columns more ≡ borrowed_columns cs ++ empty_columns (width_at (shape_of (Map b)))
add_map b cs between more first added =
    rw (shape_of-Map b, field_of-is b.value)
    (added ∙ ap (λ x. x ++ empty_columns (width_at (shape_of b.value.kind))) first ∙ append_assoc (borrowed_columns cs) _ _
    ∙ ap (λ x. borrowed_columns cs ++ x) (replicate-append-replicate 1 (width_at (shape_of b.value.kind)) []))
