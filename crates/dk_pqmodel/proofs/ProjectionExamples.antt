-- A wanted schema laid over a file's own, computed.
use Rattle.std.proofs.Common.{◌≡◌, ℕ, [], ◌∷◌, true, false, Some, None, refl, pos}
use Rattle.dk_pqmodel.specs.Shape.{Field, Fields, field, no_fields, one_field}
use Rattle.dk_pqmodel.specs.Shape as shape
use Rattle.dk_pqmodel.specs.Datum.{Datum, null, atom, group, list, no_cells, one_cell, chars, int}
use Rattle.dk_pqmodel.specs.FileSchema.{FileNode, FileNodes, file_node, no_nodes, one_node}
use Rattle.dk_pqmodel.specs.Projection.{Plans, missing, value, members, entries, no_plans, one_plan, projection, projected_fields, paths_of_all, rows_widened, first_misfit}

-- Wanted is a group g of a text p, a map m of texts and a number s.
abbrev text : ℕ → Field
text name = field (name ∷ []) true (shape.leaf shape.chars)

abbrev wanted : Fields
wanted = one_field (field (103 ∷ []) true (shape.group (one_field (text 112) (one_field (field (109 ∷ []) true (shape.map_of (text 0))) (one_field (field (115 ∷ []) true (shape.leaf shape.int64)) no_fields))))) no_fields

abbrev leaf : ℕ → ℕ → ℕ → FileNode
leaf name repetition physical = file_node (name ∷ []) repetition (Some (pos physical)) no_nodes

-- The file has g with a required s of 32 bits before m, whose entries e are of an optional k and an optional v. It has no p.
abbrev own : ℕ → FileNodes
own kind =
    one_node (file_node (103 ∷ []) 1 None (one_node (leaf 115 0 kind)
    (one_node (file_node (109 ∷ []) 1 None (one_node (file_node (101 ∷ []) 2 None (one_node (leaf 107 1 6) (one_node (leaf 118 1 6) no_nodes))) no_nodes)) no_nodes))) no_nodes

abbrev plans : Plans
plans =
    one_plan (members true (one_plan missing (one_plan (entries true true ((103 ∷ []) ∷ (109 ∷ []) ∷ (101 ∷ []) ∷ (107 ∷ []) ∷ [])
    (value true shape.chars ((103 ∷ []) ∷ (109 ∷ []) ∷ (101 ∷ []) ∷ (118 ∷ []) ∷ [])))
    (one_plan (value false shape.int32 ((103 ∷ []) ∷ (115 ∷ []) ∷ [])) no_plans)))) no_plans

the_plans : projection wanted (own 1) ≡ plans
the_plans = refl

abbrev entry : Field
entry = field [] false (shape.group (one_field (field [] true (shape.leaf shape.chars)) (one_field (field [] true (shape.leaf shape.chars)) no_fields)))

-- The map is a list of groups of the key and the value, in the order in which they are wanted.
the_cut : projected_fields plans ≡ one_field (field [] true (shape.group (one_field (field [] true (shape.list entry)) (one_field (field [] false (shape.leaf shape.int32)) no_fields)))) no_fields
the_cut = refl

the_paths : paths_of_all plans ≡ ((103 ∷ []) ∷ (109 ∷ []) ∷ (101 ∷ []) ∷ (107 ∷ []) ∷ []) ∷ ((103 ∷ []) ∷ (109 ∷ []) ∷ (101 ∷ []) ∷ (118 ∷ []) ∷ []) ∷ ((103 ∷ []) ∷ (115 ∷ []) ∷ []) ∷ []
the_paths = refl

abbrev pair : Datum → Datum → Datum
pair k v = group (one_cell k (one_cell v no_cells))

abbrev x : Datum
x = atom (chars (120 ∷ []))

-- p is null, and the entry is a pair.
the_rows : rows_widened plans (one_cell (group (one_cell (group (one_cell (list (one_cell (pair x null) no_cells)) (one_cell (atom (int (pos 7))) no_cells))) no_cells)) no_cells)
    ≡ Some (one_cell (group (one_cell (group (one_cell null (one_cell (list (one_cell (pair x null) no_cells)) (one_cell (atom (int (pos 7))) no_cells)))) no_cells)) no_cells)
the_rows = refl

-- A null key gives no rows.
no_rows : rows_widened plans (one_cell (group (one_cell (group (one_cell (list (one_cell (pair null x) no_cells)) (one_cell (atom (int (pos 7))) no_cells))) no_cells)) no_cells) ≡ None
no_rows = refl

fitting : first_misfit wanted (own 1) ≡ None
fitting = refl

-- A text where a number is wanted.
differing : first_misfit wanted (own 6) ≡ Some ((103 ∷ []) ∷ (115 ∷ []) ∷ [])
differing = refl

-- The file has none of the wanted leaves.
nothing_there : projection wanted no_nodes ≡ one_plan missing no_plans
nothing_there = refl
