-- What the rows of actions are for.
use Rattle.std.specs.Prelude.{ℕ, List, [], ◌∷◌, if◌then◌else◌}
use Rattle.std.specs.Ordering.{nat_cmp}
use Rattle.std.specs.Cmp.Lexicographic.{slice_cmp}
use Rattle.std.specs.List.Sorted.{IsStrictlySortedBy}
use Rattle.std.specs.Str.{bytes_eq}
use Rattle.serde_json.specs.Data.{Data}
use Rattle.dk_pqmodel.specs.Shape.{Shape, leaf, map_of, Field, field, Fields, no_fields, one_field, root, field_name}
use Rattle.dk_pqmodel.specs.Shape as shape
use Rattle.dk_pqmodel.specs.Datum.{Datum, null, group, list, Cells, no_cells, one_cell, appended}
use Rattle.dk_pqmodel.specs.Object.{data_of, entry_key}
use Rattle.dk_model.specs.declared.action.Action.{Action}
use Rattle.dk_model.specs.ActionKeys.{name_of}
use Rattle.dk_model.specs.declared.action_key.ActionKey.TheVariants as key
use Rattle.dk_model.specs.Ranges.{IsInRange}
use Rattle.dk_model.specs.ReadBack.{HasRisingKeys, HasVersionsInRange}
use Rattle.dk_lawful.specs.CheckpointSchema.{written_fields}
use Rattle.dk_lawful.specs.CheckpointRows.{turned_group}

-- what the types of its parts keep: numbers of 64 bits, maps in the order of their keys
pub record IsKept (a : Action) : Type 0 where
  pub range : HasVersionsInRange a → IsInRange a
  pub keys : HasRisingKeys a

-- the objects that rows stand for
abbrev pub objects_in : Fields → Cells → List Data
objects_in fs no_cells = []
objects_in fs (one_cell row rows) = data_of fs row ∷ objects_in fs rows

-- ---- maps

abbrev pub keys_in : Cells → List (List ℕ)
keys_in no_cells = []
keys_in (one_cell (group (one_cell k more)) cs) = entry_key k ∷ keys_in cs
keys_in (one_cell c cs) = keys_in cs

-- a map has each key once, in byte order
abbrev pub HasOrderedKeys : Datum → Type 0
HasOrderedKeys (list entries) = IsStrictlySortedBy (slice_cmp nat_cmp) (keys_in entries)
HasOrderedKeys c = Unit {0}

abbrev pub OnCells : Datum → (Cells → Type 0) → Type 0
OnCells (group cs) P = P cs
OnCells c P = Unit {0}

-- so has each map in a cell of this shape
abbrev mutual
  pub HasOrderedMaps : Shape → Datum → Type 0
  HasOrderedMaps (leaf l) c = Unit {0}
  HasOrderedMaps (shape.group fs) c = OnCells c (HaveOrderedMaps fs)
  HasOrderedMaps (shape.list f) c = Unit {0}
  HasOrderedMaps (map_of f) c = HasOrderedKeys c

  pub HaveOrderedMaps : Fields → Cells → Type 0
  HaveOrderedMaps no_fields cs = Unit {0}
  HaveOrderedMaps (one_field (field name nullable s) fs) no_cells = Unit {0}
  HaveOrderedMaps (one_field (field name nullable s) fs) (one_cell c cs) = HasOrderedMaps s c × HaveOrderedMaps fs cs

-- in each map of the rows each key stands once, in byte order
abbrev pub RowsHaveOrderedMaps : Fields → Cells → Type 0
RowsHaveOrderedMaps fs no_cells = Unit {0}
RowsHaveOrderedMaps fs (one_cell row rows) = HasOrderedMaps (shape.group fs) row × RowsHaveOrderedMaps fs rows

-- ---- as they are read

-- Of an add one field more is read, which isn't written and so is null.
abbrev pub with_vector : Field → Datum → Datum
with_vector f (group cells) = if bytes_eq (field_name f) (name_of key.Add) then group (appended cells (one_cell null no_cells)) else group cells
with_vector f c = c

abbrev pub row_read : Datum → Datum
row_read row = turned_group with_vector (root written_fields) row

-- the rows as they are read: of adds one field more, which isn't written and so is null
abbrev pub rows_read : Cells → Cells
rows_read no_cells = no_cells
rows_read (one_cell row rows) = one_cell (row_read row) (rows_read rows)
