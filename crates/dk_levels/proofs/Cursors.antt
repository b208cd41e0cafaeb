-- Steps of the functions that read, over what is left of the columns.
use Rattle.std.proofs.Common.{◌≡◌, ℕ, zero, suc, ◌+◌, ◌-◌, ◌<◌, ◌≤◌, Bool, true, false, List, [], ◌∷◌, ◌++◌, reverse, length, get_or, set, drop, map, refl, sym, ap, ◌∙◌, arith, Some, None, Option, MatchOption, option_to_list, vec_len, Vec, Box, Global, max}
use Rattle.std.specs.Option.{option_map}
use Rattle.std.proofs.lemmas.List.{drop_all, reverse-append}
use Rattle.dk_pqmodel.specs.declared.node.NodeKind as node
use Rattle.dk_pqmodel.specs.Shape.{Field, width_in, width_of, deepest_in, deepest_of}
use Rattle.dk_pqmodel.specs.Datum.{appended, Datum, Cells, no_cells, one_cell, list, group, Column}
use Rattle.dk_pqmodel.specs.NodeView.{field_of, fields_of, shape_of}
use Rattle.dk_pqmodel.specs.RowView.{datum_of, cells_of, rows_of}
use Rattle.dk_pqmodel.specs.ColumnView.{triple_of}
use Rattle.dk_pqmodel.specs.declared.columns.Triple.{Triple}
use Rattle.dk_pqmodel.specs.declared.row.Row.{Row}
use Rattle.dk_levels.specs.declared.levels.Repeated.{Repeated}
use Rattle.dk_levels.specs.declared.levels.Repeated.TheVariants.{Elements, Entries}
use Rattle.dk_pqmodel.specs.declared.node.Node.{Node}
use Rattle.dk_pqmodel.specs.declared.row.Cell.{Cell}
use Rattle.dk_levels.specs.Reading.{taken, first_triple, none_at, nothing_at, ◌>>=◌, Reader, later_at, list_cells_at, present_at, cells_at, cell_at}
use Rattle.dk_levels.specs.Solid.{IsSolid, AreSolid}
use Rattle.dk_levels.specs.Fronts.{fronts, front_of, repeated_at, element_width, cells_before}
use Rattle.dk_levels.specs.Answers.{FailsMeant}
use Rattle.dk_pqmodel.specs.declared.fault.PqFault.{PqFault}
use Rattle.dk_pqmodel.specs.declared.fault.PqFault.TheVariants.{NotParquet, Shape, Compressed, Encoding, Broken, OutOfMemory}
use Rattle.dk_levels.proofs.Begins.{taken_suc, wide}
use Rattle.dk_pqmodel.proofs.NodeViews.{fields_of-drop, shape_of-List, shape_of-Map}

-- what is taken off the end of a turned column is its first triple
front_is : (v new : Vec Triple Global) (t : Triple) → v.items ≡ new.items ++ t ∷ [] → front_of v ≡ triple_of t ∷ front_of new
front_is v new t e = ap (λ x. map triple_of (reverse x)) e ∙ ap (map triple_of) (reverse-append new.items (t ∷ []))

front_none : (v : Vec Triple Global) → v.items ≡ [] → front_of v ≡ []
front_none v e = ap (λ x. map triple_of (reverse x)) e

pub taken_front : (rest : List (Vec Triple Global)) (place : ℕ) (d new : Vec Triple Global) (t : Triple)
    → place < length rest → (get_or rest place d).items ≡ new.items ++ t ∷ [] → first_triple (fronts rest) place ≡ Some (triple_of t, fronts (set rest place new))
taken_front [] place d new t h e = absurd (omega arith)
taken_front (v ∷ rest) zero d new t h e = ap (λ x. taken x (fronts (v ∷ rest)) 0) (front_is v new t e)
taken_front (v ∷ rest) (suc place) d new t h e = taken_suc _ _ _ place _ _ (taken_front rest place d new t (omega arith) e)

pub nothing_left : (rest : List (Vec Triple Global)) (place : ℕ) (d : Vec Triple Global)
    → place < length rest → (get_or rest place d).items ≡ [] → first_triple (fronts rest) place ≡ None
nothing_left [] place d h e = absurd (omega arith)
nothing_left (v ∷ rest) zero d h e = ap (λ x. taken x (fronts (v ∷ rest)) 0) (front_none v e)
nothing_left (v ∷ rest) (suc place) d h e = later (get_or (fronts rest) place []) (nothing_left rest place d (omega arith) e)
  where
    later : (s : Column) → taken s (fronts rest) place ≡ None → taken s (front_of v ∷ fronts rest) (suc place) ≡ None
    later [] g = refl
    later (x ∷ s) g = cc

is_empty : {A : Type 0} (xs : List A) → length xs ≡ 0 → xs ≡ []
is_empty [] h = refl
is_empty (x ∷ xs) h = absurd (omega arith)

-- what `pop` gives is the first triple, if there is one
pub taken_end : (rest : List (Vec Triple Global)) (place : ℕ) (d new : Vec Triple Global) (o : Option Triple)
    → place < length rest → (get_or rest place d).items ≡ new.items ++ option_to_list o
    → MatchOption o ((vec_len (get_or rest place d) ≡ 0) × (vec_len new ≡ 0)) (λ t. vec_len new + 1 ≡ vec_len (get_or rest place d))
    → MatchOption o (first_triple (fronts rest) place ≡ None) (λ t. first_triple (fronts rest) place ≡ Some (triple_of t, fronts (set rest place new)))
taken_end rest place d new None h e cases = nothing_left rest place d h (is_empty (get_or rest place d).items (omega (arith, cases.0, (get_or rest place d).ok.0)))
taken_end rest place d new (Some t) h e cases = taken_front rest place d new t h e

pub appended_push : (cs : List Cell) (c : Cell) (more : Cells) → appended (cells_of (cs ++ c ∷ [])) more ≡ appended (cells_of cs) (one_cell (datum_of c) more)
appended_push [] c more = refl
appended_push (x ∷ cs) c more = ap (one_cell (datum_of x)) (appended_push cs c more)

pub appended_nothing : (cs : Cells) → appended cs no_cells ≡ cs
appended_nothing no_cells = refl
appended_nothing (one_cell c cs) = ap (one_cell c) (appended_nothing cs)

moved : (cs : List Cell) (c : Cell) (o : Option (Cells × List Column))
    → cells_before (cells_of (cs ++ c ∷ [])) o ≡ cells_before (cells_of cs) (o >>= λ more. Some (one_cell (datum_of c) more.0, more.1))
moved cs c None = refl
moved cs c (Some p) = ap (λ x. Some (x, p.1)) (appended_push cs c p.0)

-- one more cell of a group
pub each_step : (ns : List Node) (i : ℕ) (n : Node) (cs now : List Cell) (c : Cell) (before after : List Column) (r d k place next : ℕ) (total : Option (Cells × List Column))
    → i < length ns → n ≡ get_or ns i n → cell_at (field_of n) r d k place before ≡ Some (datum_of c, after) → now ≡ cs ++ c ∷ [] → next ≡ place + width_in (field_of n)
    → cells_before (cells_of cs) (cells_at (fields_of (drop i ns)) r d k place before) ≡ total
    → cells_before (cells_of now) (cells_at (fields_of (drop (i + 1) ns)) r d k next after) ≡ total
each_step ns i n cs now c before after r d k place next total h is read pushed at p =
    ap (λ x. cells_before (cells_of x) (cells_at (fields_of (drop (i + 1) ns)) r d k next after)) pushed
    ∙ ap (λ x. cells_before (cells_of (cs ++ c ∷ [])) (cells_at (fields_of (drop (i + 1) ns)) r d k x after)) at
    ∙ moved cs c (cells_at (fields_of (drop (i + 1) ns)) r d k (place + width_in (field_of n)) after)
    ∙ (rw (fields_of-drop ns i n h is, read) at p)

pub nothing_step : (end i r d : ℕ) (cs rest : List Column) (total : Option (List Column)) → i < end → none_at r d i cs ≡ Some rest
    → nothing_at (end - i) r d i cs ≡ total → nothing_at (end - (i + 1)) r d (i + 1) rest ≡ total
nothing_step end i r d cs rest total h one p =
    let e : end - i ≡ suc (end - (i + 1)) = omega arith in
    let q : (none_at r d i cs >>= λ more. nothing_at (end - (i + 1)) r d (i + 1) more) ≡ total = ap (λ n. nothing_at n r d i cs) (sym e) ∙ p in
    rw one at q

-- the cells of the fields that are left
pub record EachLeft (nodes : List Node) (cells : List Cell) (now : List Column) (r d k next : ℕ) (total : Option (Cells × List Column)) (end : ℕ) : Type 0 where
  pub reads : cells_before (cells_of cells) (cells_at (fields_of nodes) r d k next now) ≡ total
  pub solid : AreSolid (fields_of nodes)
  pub deep : d + deepest_of (fields_of nodes) < 256
  pub ends : next + width_of (fields_of nodes) ≡ end

pub element_wide : (b : Repeated) (f : Field) → IsSolid f → 0 < element_width b f
element_wide Elements f h = wide f h
element_wide Entries f h = omega arith

pub each_left_step : (ns : List Node) (i : ℕ) (n : Node) (cs now : List Cell) (c : Cell) (before after : List Column) (r d k place next end : ℕ) (total : Option (Cells × List Column))
    → i < length ns → n ≡ get_or ns i n → cell_at (field_of n) r d k place before ≡ Some (datum_of c, after) → now ≡ cs ++ c ∷ [] → next ≡ place + width_in (field_of n)
    → EachLeft (drop i ns) cs before r d k place total end → EachLeft (drop (i + 1) ns) now after r d k next total end
each_left_step ns i n cs now c before after r d k place next end total h is read pushed at p =
    let fs = fields_of-drop ns i n h is in
    let solid : IsSolid (field_of n) × AreSolid (fields_of (drop (i + 1) ns)) = rw fs at p.solid in
    let deep : d + max (deepest_in (field_of n)) (deepest_of (fields_of (drop (i + 1) ns))) < 256 = rw fs at p.deep in
    let ends : place + (width_in (field_of n) + width_of (fields_of (drop (i + 1) ns))) ≡ end = rw fs at p.ends in
    record {
      reads = each_step ns i n cs now c before after r d k place next total h is read pushed at p.reads;
      solid = solid.1;
      deep = omega arith;
      ends = omega arith;
    }

pub each_left_end : (ns : List Node) (i : ℕ) (cs : List Cell) (now : List Column) (r d k next end : ℕ) (total : Option (Cells × List Column))
    → length ns ≤ i → EachLeft (drop i ns) cs now r d k next total end → total ≡ Some (cells_of cs, now)
each_left_end ns i cs now r d k next end total h p =
    let e : drop i ns ≡ [] = drop_all i ns h in
    let q : cells_before (cells_of cs) (Some (no_cells, now)) ≡ total = rw e at p.reads in
    sym q ∙ ap (λ x. Some (x, now)) (appended_nothing (cells_of cs))

pub each_left_next : (ns : List Node) (i : ℕ) (cs : List Cell) (now : List Column) (r d k next end : ℕ) (total : Option (Cells × List Column))
    → length ns ≤ i → EachLeft (drop i ns) cs now r d k next total end → next ≡ end
each_left_next ns i cs now r d k next end total h p =
    let e : drop i ns ≡ [] = drop_all i ns h in
    let ends : next + 0 ≡ end = rw e at p.ends in omega arith

-- ---- the elements that follow

pub later_done : (read : Reader) (goes : List Column → Bool) (n : ℕ) (cs : List Column) (front : Cells) (total : Option (Cells × List Column))
    → goes cs ≡ false → cells_before front (later_at read goes n cs) ≡ total → total ≡ Some (front, cs)
later_done read goes zero cs front total g p = let q : Some (appended front no_cells, cs) ≡ total = rw g at p in sym q ∙ ap (λ x. Some (x, cs)) (appended_nothing front)
later_done read goes (suc n) cs front total g p = let q : Some (appended front no_cells, cs) ≡ total = rw g at p in sym q ∙ ap (λ x. Some (x, cs)) (appended_nothing front)

pub later_fails : (read : Reader) (goes : List Column → Bool) (most i : ℕ) (cs : List Column) (front : Cells) (total : Option (Cells × List Column)) (e : PqFault)
    → goes cs ≡ true → i < most → FailsMeant e (read cs) → cells_before front (later_at read goes (most - i) cs) ≡ total → FailsMeant e total
later_fails read goes most i cs front total OutOfMemory g h bad p = tt
later_fails read goes most i cs front total NotParquet g h bad p = absurd bad
later_fails read goes most i cs front total (Shape c) g h bad p = absurd bad
later_fails read goes most i cs front total (Compressed c n) g h bad p = absurd bad
later_fails read goes most i cs front total (Encoding c n) g h bad p = absurd bad
later_fails read goes most i cs front total Broken g h bad p =
    let e : most - i ≡ suc (most - (i + 1)) = omega arith in
    let q : cells_before front (later_at read goes (suc (most - (i + 1))) cs) ≡ total = ap (λ n. cells_before front (later_at read goes n cs)) (sym e) ∙ p in
    sym (rw (g, bad) at q)

pub later_more : (read : Reader) (goes : List Column → Bool) (most i : ℕ) (before after : List Column) (cs now : List Cell) (c : Cell) (total : Option (Cells × List Column))
    → goes before ≡ true → i < most → read before ≡ Some (datum_of c, after) → now ≡ cs ++ c ∷ []
    → cells_before (cells_of cs) (later_at read goes (most - i) before) ≡ total → cells_before (cells_of now) (later_at read goes (most - (i + 1)) after) ≡ total
later_more read goes most i before after cs now c total g h got pushed p =
    let e : most - i ≡ suc (most - (i + 1)) = omega arith in
    let q : cells_before (cells_of cs) (later_at read goes (suc (most - (i + 1))) before) ≡ total = ap (λ n. cells_before (cells_of cs) (later_at read goes n before)) (sym e) ∙ p in
    ap (λ x. cells_before (cells_of x) (later_at read goes (most - (i + 1)) after)) pushed ∙ moved cs c (later_at read goes (most - (i + 1)) after) ∙ (rw (g, got) at q)

-- ---- a list's kind

pub at_List : (b : Box Node Global) (r d k place : ℕ) (cs : List Column)
    → present_at (shape_of (node.List b)) r d k place cs ≡ option_map (λ p. (list p.0, p.1)) (list_cells_at (repeated_at Elements (field_of b.value) r (d + 1) (k + 1) place) (repeated_at Elements (field_of b.value) (k + 1) (d + 1) (k + 1) place) (element_width Elements (field_of b.value)) r d k place cs)
at_List b r d k place cs = rw (shape_of-List b) refl

pub at_Map : (b : Box Node Global) (r d k place : ℕ) (cs : List Column)
    → present_at (shape_of (node.Map b)) r d k place cs ≡ option_map (λ p. (list p.0, p.1)) (list_cells_at (repeated_at Entries (field_of b.value) r (d + 1) (k + 1) place) (repeated_at Entries (field_of b.value) (k + 1) (d + 1) (k + 1) place) (element_width Entries (field_of b.value)) r d k place cs)
at_Map b r d k place cs = rw (shape_of-Map b) refl

pub list_failed : (e : PqFault) (o : Option (Cells × List Column)) → FailsMeant e o → FailsMeant {Y = Datum × List Column} e (option_map (λ p. (list p.0, p.1)) o)
list_failed OutOfMemory o h = tt
list_failed NotParquet o h = absurd h
list_failed (Shape c) o h = absurd h
list_failed (Compressed c n) o h = absurd h
list_failed (Encoding c n) o h = absurd h
list_failed Broken o h = ap (option_map (λ p. (list p.0, p.1))) h

-- ---- rows

rows_push : (rows : List Row) (row : Row) (more : Cells) → appended (rows_of (rows ++ row ∷ [])) more ≡ appended (rows_of rows) (one_cell (group (cells_of row.cells.items)) more)
rows_push [] row more = refl
rows_push (x ∷ rows) row more = ap (one_cell (group (cells_of x.cells.items))) (rows_push rows row more)

moved_rows : (rows : List Row) (row : Row) (o : Option (Cells × List Column))
    → cells_before (rows_of (rows ++ row ∷ [])) o ≡ cells_before (rows_of rows) (o >>= λ more. Some (one_cell (group (cells_of row.cells.items)) more.0, more.1))
moved_rows rows row None = refl
moved_rows rows row (Some p) = ap (λ x. Some (x, p.1)) (rows_push rows row p.0)

pub rows_more : (read : Reader) (goes : List Column → Bool) (most i : ℕ) (before after : List Column) (rows now : List Row) (row : Row) (total : Option (Cells × List Column))
    → goes before ≡ true → i < most → read before ≡ Some (group (cells_of row.cells.items), after) → now ≡ rows ++ row ∷ []
    → cells_before (rows_of rows) (later_at read goes (most - i) before) ≡ total → cells_before (rows_of now) (later_at read goes (most - (i + 1)) after) ≡ total
rows_more read goes most i before after rows now row total g h got pushed p =
    let e : most - i ≡ suc (most - (i + 1)) = omega arith in
    let q : cells_before (rows_of rows) (later_at read goes (suc (most - (i + 1))) before) ≡ total = ap (λ n. cells_before (rows_of rows) (later_at read goes n before)) (sym e) ∙ p in
    ap (λ x. cells_before (rows_of x) (later_at read goes (most - (i + 1)) after)) pushed ∙ moved_rows rows row (later_at read goes (most - (i + 1)) after) ∙ (rw (g, got) at q)

pub fails_map : (e : PqFault) (o : Option (Cells × List Column)) → FailsMeant e o → FailsMeant {Y = Datum × List Column} e (option_map (λ p. (group p.0, p.1)) o)
fails_map OutOfMemory o h = tt
fails_map NotParquet o h = absurd h
fails_map (Shape c) o h = absurd h
fails_map (Compressed c n) o h = absurd h
fails_map (Encoding c n) o h = absurd h
fails_map Broken o h = ap (option_map (λ p. (group p.0, p.1))) h
