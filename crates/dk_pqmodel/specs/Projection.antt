-- A wanted schema laid over a file's own: what is read, and how it is turned into wanted rows.
--
-- Lists and maps have the inner names of the file, fields are required or optional as the file has
-- them, and a wanted field that the file lacks is null.
use Rattle.std.specs.Prelude.{ℕ, Bool, true, false, ◌&&◌, List, [], ◌∷◌, ◌++◌, codes, Option, Some, None, option_map, option_and_then, if◌then◌else◌}
use Rattle.std.specs.List.{join_with_byte}
use Rattle.dk_grammar.specs.Structs.{first_of_two}
use Rattle.dk_pqmodel.specs.Shape.{Leaf, chars, Shape, Field, field, Fields, no_fields, one_field, leaf, map_of}
use Rattle.dk_pqmodel.specs.Shape as shape
use Rattle.dk_pqmodel.specs.Datum.{Datum, null, atom, group, list, Cells, no_cells, one_cell}
use Rattle.dk_pqmodel.specs.FileSchema.{FileNode, FileNodes, node_name, is_optional, named_in, leaf_kind, group_nodes, repeated_node, only_node, two_nodes}

-- the names from the top to a column
abbrev pub Path : Type 0
Path = List (List ℕ)

-- What is read for wanted fields. The flags say whether the file's own field is optional.
mutual
  pub data Plan : Type 0 where
    -- nothing: it is null in each row
    missing : Plan
    -- a column
    value : Bool → Leaf → Path → Plan
    members : Bool → Plans → Plan
    elements : Bool → Plan → Plan
    -- entries of a key, whose column has this path and may be optional in the file, and a value
    entries : Bool → Bool → Path → Plan → Plan

  pub data Plans : Type 0 where
    no_plans : Plans
    one_plan : Plan → Plans → Plans

abbrev pub is_missing : Plan → Bool
is_missing missing = true
is_missing (value b l p) = false
is_missing (members b ps) = false
is_missing (elements b p) = false
is_missing (entries b k path p) = false

abbrev pub all_missing : Plans → Bool
all_missing no_plans = true
all_missing (one_plan p ps) = is_missing p && all_missing ps

abbrev pub on_some : {A : Type 0} → Option A → (A → Plan) → Plan
on_some None f = missing
on_some (Some x) f = f x

abbrev pub members_of : Bool → Plans → Plan
members_of b ps = if all_missing ps then missing else members b ps

abbrev pub elements_of : Bool → Plan → Plan
elements_of b p = if is_missing p then missing else elements b p

-- a map is there where its key is
abbrev pub entries_of : Bool → FileNode → Path → Plan → Plan
entries_of b k path p = on_some (leaf_kind chars k) (λ l. entries b (is_optional k) path p)

abbrev mutual
  -- the plan of a wanted shape at the file's node, whose path is given
  pub projection_at : Shape → Path → FileNode → Plan
  projection_at (leaf l) path n = on_some (leaf_kind l n) (λ kind. value (is_optional n) kind path)
  projection_at (shape.group fs) path n = on_some (group_nodes n) (λ ns. members_of (is_optional n) (projection_each fs path ns))
  projection_at (shape.list f) path n =
      on_some (repeated_node n) (λ r. on_some (only_node r) (λ e. elements_of (is_optional n) (projection_in f (path ++ node_name r ∷ node_name e ∷ []) e)))
  projection_at (map_of f) path n =
      on_some (repeated_node n) (λ r. on_some (two_nodes r) (λ pair.
      entries_of (is_optional n) pair.0 (path ++ node_name r ∷ node_name pair.0 ∷ []) (projection_in f (path ++ node_name r ∷ node_name pair.1 ∷ []) pair.1)))

  pub projection_in : Field → Path → FileNode → Plan
  projection_in (field name nullable s) path n = projection_at s path n

  -- each wanted field at the node of its name
  pub projection_each : Fields → Path → FileNodes → Plans
  projection_each no_fields path ns = no_plans
  projection_each (one_field f fs) path ns = one_plan (projection_named f path ns) (projection_each fs path ns)

  pub projection_named : Field → Path → FileNodes → Plan
  projection_named (field name nullable s) path ns = on_some (named_in name ns) (λ n. projection_at s (path ++ name ∷ []) n)

-- the plans of a wanted schema over the nodes at the top of the file's
abbrev pub projection : Fields → FileNodes → Plans
projection fs ns = projection_each fs [] ns

-- ---- the part of the file's own schema that is read

-- fields of the file, without those that are missing
abbrev pub field_then : Option Field → Fields → Fields
field_then None fs = fs
field_then (Some f) fs = one_field f fs

abbrev pub unnamed_field : Bool → Shape → Option Field
unnamed_field b s = Some (field [] b s)

-- an entry as the file has it: its value may be missing
abbrev pub file_entry : Bool → Option Field → Field
file_entry k v = field [] false (shape.group (one_field (field [] k (leaf chars)) (field_then v no_fields)))

abbrev mutual
  pub projected_field : Plan → Option Field
  projected_field missing = None
  projected_field (value b l path) = unnamed_field b (leaf l)
  projected_field (members b ps) = unnamed_field b (shape.group (projected_fields ps))
  projected_field (elements b p) = option_map (λ f. field [] b (shape.list f)) (projected_field p)
  projected_field (entries b k path p) = unnamed_field b (shape.list (file_entry k (projected_field p)))

  pub projected_fields : Plans → Fields
  projected_fields no_plans = no_fields
  projected_fields (one_plan p ps) = field_then (projected_field p) (projected_fields ps)

-- the paths of its columns, in order
abbrev mutual
  pub paths_of : Plan → List Path
  paths_of missing = []
  paths_of (value b l path) = path ∷ []
  paths_of (members b ps) = paths_of_all ps
  paths_of (elements b p) = paths_of p
  paths_of (entries b k path p) = path ∷ paths_of p

  pub paths_of_all : Plans → List Path
  paths_of_all no_plans = []
  paths_of_all (one_plan p ps) = paths_of p ++ paths_of_all ps

-- ---- wanted cells from those that are read

abbrev pub both_read : Option Datum → Option Cells → Option Cells
both_read None more = None
both_read (Some c) None = None
both_read (Some c) (Some cs) = Some (one_cell c cs)

-- each cell turned by the same function; none where one can't be
abbrev pub turned_all : (Datum → Option Datum) → Cells → Option Cells
turned_all turn no_cells = Some no_cells
turned_all turn (one_cell c cs) = both_read (turn c) (turned_all turn cs)

abbrev pub in_group : (Cells → Option Cells) → Datum → Option Datum
in_group turn (group cs) = option_map group (turn cs)
in_group turn c = Some c

abbrev pub in_list : (Cells → Option Cells) → Datum → Option Datum
in_list turn (list cs) = option_map list (turn cs)
in_list turn c = Some c

-- the first cell, if any is read for the plan, and then the others
abbrev pub next_cell : Bool → (Datum → Option Datum) → (Cells → Option Cells) → Cells → Option Cells
next_cell true turn others cs = both_read (Some null) (others cs)
next_cell false turn others no_cells = None
next_cell false turn others (one_cell c cs) = both_read (turn c) (others cs)

-- A key and a value. A null key is refused, and a value that the file lacks is null.
abbrev pub pair_of : (Datum → Option Datum) → Datum → Option Datum
pair_of turn (group (one_cell (atom k) no_cells)) = Some (group (one_cell (atom k) (one_cell null no_cells)))
pair_of turn (group (one_cell (atom k) (one_cell v no_cells))) = option_map (λ w. group (one_cell (atom k) (one_cell w no_cells))) (turn v)
pair_of turn c = None

abbrev mutual
  pub widened : Plan → Datum → Option Datum
  widened missing c = Some null
  widened (value b l path) c = Some c
  widened (members b ps) c = in_group (widened_each ps) c
  widened (elements b p) c = in_list (turned_all (widened p)) c
  widened (entries b k path p) c = in_list (turned_all (pair_of (widened p))) c

  -- one wanted cell for each plan
  pub widened_each : Plans → Cells → Option Cells
  widened_each no_plans cs = Some no_cells
  widened_each (one_plan p ps) cs = next_cell (is_missing p) (widened p) (widened_each ps) cs

-- the wanted rows; none where a map has a null key
abbrev pub rows_widened : Plans → Cells → Option Cells
rows_widened ps rows = turned_all (in_group (widened_each ps)) rows

-- ---- where the structure differs

-- the path of the first wanted leaf, by the names that are written
abbrev mutual
  pub first_leaf : Shape → Path → Path
  first_leaf (leaf l) path = path
  first_leaf (shape.group fs) path = first_leaf_of fs path
  first_leaf (shape.list f) path = first_leaf_in f (path ++ codes "list" ∷ codes "element" ∷ [])
  first_leaf (map_of f) path = path ++ codes "key_value" ∷ codes "key" ∷ []

  pub first_leaf_in : Field → Path → Path
  first_leaf_in (field name nullable s) path = first_leaf s path

  pub first_leaf_of : Fields → Path → Path
  first_leaf_of no_fields path = path
  first_leaf_of (one_field (field name nullable s) fs) path = first_leaf s (path ++ name ∷ [])

abbrev pub misfit_unless : {A : Type 0} → Option A → Path → (A → Option Path) → Option Path
misfit_unless None path f = Some path
misfit_unless (Some x) path f = f x

abbrev mutual
  -- the first wanted leaf that has another type or structure in the file
  pub misfit_at : Shape → Path → FileNode → Option Path
  misfit_at (leaf l) path n = misfit_unless (leaf_kind l n) path (λ kind. None)
  misfit_at (shape.group fs) path n = misfit_unless (group_nodes n) (first_leaf (shape.group fs) path) (λ ns. misfit_each fs path ns)
  misfit_at (shape.list f) path n =
      misfit_unless (repeated_node n) (first_leaf (shape.list f) path) (λ r. misfit_unless (only_node r) (first_leaf (shape.list f) path) (λ e.
      misfit_in f (path ++ codes "list" ∷ codes "element" ∷ []) e))
  misfit_at (map_of f) path n =
      misfit_unless (repeated_node n) (first_leaf (map_of f) path) (λ r. misfit_unless (two_nodes r) (first_leaf (map_of f) path) (λ pair.
      misfit_unless (leaf_kind chars pair.0) (first_leaf (map_of f) path) (λ l. misfit_in f (path ++ codes "key_value" ∷ codes "value" ∷ []) pair.1)))

  pub misfit_in : Field → Path → FileNode → Option Path
  misfit_in (field name nullable s) path n = misfit_at s path n

  pub misfit_each : Fields → Path → FileNodes → Option Path
  misfit_each no_fields path ns = None
  misfit_each (one_field f fs) path ns = first_of_two (misfit_named f path ns) (misfit_each fs path ns)

  -- A wanted field that the file lacks differs in nothing.
  pub misfit_named : Field → Path → FileNodes → Option Path
  misfit_named (field name nullable s) path ns = option_and_then (λ n. misfit_at s (path ++ name ∷ []) n) (named_in name ns)

abbrev pub first_misfit : Fields → FileNodes → Option Path
first_misfit fs ns = misfit_each fs [] ns

-- the names of a path, joined by full stops
abbrev pub dotted : Path → List ℕ
dotted path = join_with_byte 46 path
