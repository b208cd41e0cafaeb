-- The actions that the rows of a checkpoint mean (Delta Lake's PROTOCOL.md, "Checkpoint Schema").
use Rattle.std.specs.Prelude.{ℕ, List, [], ◌++◌, Bool, true, false, ◌&&◌, Option, Some, option_map, option_and_then, if◌then◌else◌, codes}
use Rattle.std.specs.Option.{option_to_list}
use Rattle.std.specs.Str.{bytes_eq}
use Rattle.dk_pqmodel.specs.Shape.{Field, Fields, no_fields, one_field, root, field_name, shape_in, fields_at}
use Rattle.dk_pqmodel.specs.Datum.{Datum, null, atom, group, list, Cells, no_cells, one_cell}
use Rattle.dk_pqmodel.specs.Object.{data_of}
use Rattle.dk_model.specs.declared.action.Action.{Action}
use Rattle.dk_model.specs.ActionObject.{action_of}
use Rattle.dk_lawful.specs.CheckpointSchema.{read_fields}

-- ---- a deletion vector without a storage type counts as absent

abbrev pub is_null : Datum → Bool
is_null null = true
is_null (atom v) = false
is_null (group cs) = false
is_null (list cs) = false

abbrev pub all_null : Cells → Bool
all_null no_cells = true
all_null (one_cell c cs) = is_null c && all_null cs

-- a group that has none of its fields
abbrev pub is_empty : Datum → Bool
is_empty (group cs) = all_null cs
is_empty c = false

abbrev pub is_vector_name : List ℕ → Bool
is_vector_name name = bytes_eq name (codes "deletionVector")

abbrev pub counted_cell : Field → Datum → Datum
counted_cell f c = if is_vector_name (field_name f) && is_empty c then null else c

-- the cells of a group, each by its field
abbrev pub each_by : (Field → Datum → Datum) → Fields → Cells → Cells
each_by turn no_fields cs = cs
each_by turn (one_field f fs) no_cells = no_cells
each_by turn (one_field f fs) (one_cell c cs) = one_cell (turn f c) (each_by turn fs cs)

abbrev pub turned_group : (Field → Datum → Datum) → Field → Datum → Datum
turned_group turn f (group cs) = group (each_by turn (fields_at (shape_in f)) cs)
turned_group turn f c = c

-- in a row, whose groups are those of the kinds of actions
abbrev pub counted : Fields → Datum → Datum
counted fs row = turned_group (turned_group counted_cell) (root fs) row

-- ---- the meaning of rows

-- A row means what the JSON object of its fields that aren't null means: an action, nothing to do, or no answer.
unfoldable pub row_means : Datum → Option (Option Action)
row_means row = action_of (data_of read_fields (counted read_fields row))

-- one row's action before those of the rows after it
abbrev pub with_action : Option Action → List Action → List Action
with_action action actions = option_to_list action ++ actions

-- the actions of rows, in order; no answer where a row means nothing
abbrev pub actions_of_rows : Cells → Option (List Action)
actions_of_rows no_cells = Some []
actions_of_rows (one_cell row rows) = option_and_then (λ a. option_map (with_action a) (actions_of_rows rows)) (row_means row)
