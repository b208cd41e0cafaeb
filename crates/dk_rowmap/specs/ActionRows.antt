-- The rows of actions (Delta Lake's PROTOCOL.md, "Checkpoint Schema"): each has a cell for each group of the schema, null but for the
-- group under the action's key, and in that a cell for each field of the group.
use Rattle.std.specs.Prelude.{ℕ, pos, List, [], ◌∷◌, map, Bool, Option, Some, None, if◌then◌else◌}
use Rattle.std.specs.Str.{bytes_eq}
use Rattle.serde_json.specs.Data.{Num, unsigned, negative, float, Data}
use Rattle.serde_json.specs.Find.{as_bool, as_number, as_str}
use Rattle.dk_pqmodel.specs.Shape.{Leaf, Shape, leaf, list, map_of, Field, field, Fields, no_fields, one_field, field_name, shape_in, fields_at}
use Rattle.dk_pqmodel.specs.Shape as shape
use Rattle.dk_pqmodel.specs.Datum.{Datum, null, atom, group, flag, int, chars, Cells, no_cells, one_cell}
use Rattle.dk_pqmodel.specs.Datum as cell
use Rattle.dk_pqmodel.specs.RowView.{cells_of_list}
use Rattle.dk_model.specs.Fields as form
use Rattle.dk_model.specs.Shown as shown
use Rattle.dk_model.specs.declared.action.Action.{Action}
use Rattle.dk_model.specs.declared.action.Action.TheVariants as action
use Rattle.dk_model.specs.ActionObject.{key_name}
use Rattle.dk_model.specs.ProtocolObject.{protocol_fields}
use Rattle.dk_model.specs.MetadataObject.{metadata_fields}
use Rattle.dk_model.specs.AddObject.{add_fields}
use Rattle.dk_model.specs.RemoveObject.{remove_fields}
use Rattle.dk_model.specs.TxnObject.{txn_fields}
use Rattle.dk_model.specs.DomainObject.{domain_fields}
use Rattle.dk_model.specs.InfoObject.{info_fields}
use Rattle.dk_model.specs.CheckpointObjects.{checkpoint_meta_fields, sidecar_fields}
use Rattle.dk_model.specs.ReadBack.{is_written}
use Rattle.dk_lawful.specs.CheckpointSchema.{written_fields}

-- ---- cells

-- the cell of what there is, or null
abbrev pub held : {A : Type 0} → (A → Datum) → Option A → Datum
held cell None = null
held cell (Some x) = cell x

abbrev pub flag_cell : Bool → Datum
flag_cell b = atom (flag b)

abbrev pub text_cell : List ℕ → Datum
text_cell t = atom (chars t)

abbrev pub number_cell : Num → Datum
number_cell (unsigned n) = atom (int (pos n))
number_cell (negative z) = atom (int z)
number_cell (float x) = null

-- a list of texts
abbrev pub names_cell : List (List ℕ) → Datum
names_cell ns = cell.list (cells_of_list (map text_cell ns))

-- a map has its entries as groups of a key and a value
abbrev pub entry_cell : List ℕ × Option (List ℕ) → Datum
entry_cell p = group (cells_of_list (text_cell p.0 ∷ held text_cell p.1 ∷ []))

abbrev pub pairs_cell : List (List ℕ × Option (List ℕ)) → Datum
pairs_cell ps = cell.list (cells_of_list (map entry_cell ps))

abbrev pub leaf_cell : Leaf → Data → Datum
leaf_cell shape.flag d = held flag_cell (as_bool d)
leaf_cell shape.int32 d = held number_cell (as_number d)
leaf_cell shape.int64 d = held number_cell (as_number d)
leaf_cell shape.chars d = held text_cell (as_str d)

-- A value as a cell of this shape. Lists are of texts, and maps from texts to texts or nulls.
abbrev mutual
  pub cell_in : Shape → Data → Datum
  cell_in (leaf l) d = leaf_cell l d
  cell_in (shape.group fs) d = group (cells_in fs d)
  cell_in (list f) d = held names_cell (form.names d)
  cell_in (map_of f) d = held pairs_cell (form.pairs d)

  -- a cell for each field of an object
  pub cells_in : Fields → Data → Cells
  cells_in no_fields d = no_cells
  cells_in (one_field (field name nullable s) fs) d = one_cell (held (cell_in s) (form.field name d)) (cells_in fs d)

-- ---- groups

abbrev pub Table : Type 0
Table = List shown.Field

-- what a table of fields has at a key
abbrev pub value_at : List ℕ → Table → Option Data
value_at key [] = None
value_at key (f ∷ table) = if bytes_eq key f.0 then f.1 else value_at key table

abbrev pub field_cell : Table → Field → Datum
field_cell table f = held (cell_in (shape_in f)) (value_at (field_name f) table)

-- a cell for each field
abbrev pub each_cell : (Field → Datum) → Fields → List Datum
each_cell cell no_fields = []
each_cell cell (one_field f fs) = cell f ∷ each_cell cell fs

-- ---- rows

-- the fields of an action, as they are written in its JSON object
abbrev pub table_of : Action → Table
table_of (action.Protocol p) = protocol_fields p
table_of (action.Metadata m) = metadata_fields m
table_of (action.Add f) = add_fields f
table_of (action.Remove r) = remove_fields r
table_of (action.Txn t) = txn_fields t
table_of (action.Domain d) = domain_fields d
table_of (action.Info i) = info_fields i
table_of action.Cdc = []
table_of (action.CheckpointMeta m) = checkpoint_meta_fields m
table_of (action.Sidecar r) = sidecar_fields r

abbrev pub group_cell : Action → Field → Datum
group_cell a f = if bytes_eq (field_name f) (key_name a) then group (cells_of_list (each_cell (field_cell (table_of a)) (fields_at (shape_in f)))) else null

-- the row of an action under a schema of groups
abbrev pub row_for : Fields → Action → Datum
row_for fs a = group (cells_of_list (each_cell (group_cell a) fs))

-- the rows of actions, one after another
abbrev pub rows_for : Fields → List Action → Cells
rows_for fs actions = cells_of_list (map (row_for fs) actions)

-- what is written of an action as a row, if anything
abbrev pub row_if : Action → Option Datum
row_if a = if is_written a then Some (row_for written_fields a) else None
