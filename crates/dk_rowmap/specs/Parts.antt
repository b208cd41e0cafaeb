-- What a part of a row stands for, under its field of the schema.
use Rattle.std.specs.Prelude.{ℕ, List, [], ◌∷◌, if◌then◌else◌}
use Rattle.std.specs.Str.{bytes_eq}
use Rattle.std.specs.FinMap as fin
use Rattle.std.specs.Ordering.{nat_cmp}
use Rattle.std.specs.Cmp.Lexicographic.{slice_cmp}
use Rattle.std.specs.Prelude.{Option, Some, None}
use Rattle.serde_json.specs.Data.{Data, boolean, number, string, array, object, Members, no_members, member}
use Rattle.dk_pqmodel.specs.Shape.{Field, Fields, field_name, element_at}
use Rattle.dk_pqmodel.specs.Datum.{Datum, null, atom, group, chars, Cells, no_cells, one_cell}
use Rattle.dk_pqmodel.specs.Object.{whole_num, json_in, members_of, items_of, entries_of, entry_key}
use Rattle.dk_pqmodel.specs.RowView.{cells_of}
use Rattle.dk_pqmodel.specs.NodeView.{field_of, fields_of, shape_of}
use Rattle.dk_model.specs.Fields.{present, text_or_null}
use Rattle.dk_lawful.specs.CheckpointRows.{counted_cell, each_by, turned_group}
use Rattle.dk_actjson.specs.Slots.{Slot}
use Rattle.dk_rowmap.specs.declared.part.Depth.{Depth}
use Rattle.dk_rowmap.specs.declared.part.Depth.TheVariants as depth
use Rattle.dk_rowmap.specs.declared.part.Part.{Part}
use Rattle.dk_rowmap.specs.declared.part.Part.TheVariants as part

-- How a cell of a group counts: in a row each group is that of a kind of actions, and in that a deletion vector may be empty.
abbrev pub turned : Depth → Field → Datum → Datum
turned depth.Row f c = turned_group counted_cell f c
turned depth.Kind f c = counted_cell f c
turned depth.Inner f c = c

-- the object of the cells of a group
abbrev pub group_data : Depth → Fields → Cells → Data
group_data d fs cs = object (members_of (each_by (turned d) fs cs) fs)

abbrev pub data_in : Part → Data
data_in (part.Flag b) = boolean b
data_in (part.Int n) = number (whole_num n)
data_in (part.Chars t) = string t.now
data_in (part.Group cells nodes d) = group_data d (fields_of nodes.now) (cells_of cells.now)
data_in (part.List cells kind) = array (items_of (cells_of cells.now) (element_at (shape_of kind.now)))
data_in (part.Map cells value) = object (entries_of (cells_of cells.now) (field_of value.now) no_members)

-- a cell, where its field has that name and it isn't null
abbrev pub named_part : List ℕ → Field → Datum → Option Data
named_part q f c = if bytes_eq (field_name f) q then present (Some (json_in c f)) else None

-- the text of a cell, if it is one
abbrev pub text_in : Datum → Option (List ℕ)
text_in (atom (chars t)) = Some t
text_in _ = None

-- the text or the null of a cell, if it is either
abbrev pub slot_in : Datum → Option (Option (List ℕ))
slot_in null = Some None
slot_in (atom (chars t)) = Some (Some t)
slot_in _ = None

-- the key and the value of an entry, if the cell is one
abbrev pub entry_in : Datum → Option (Datum × Datum)
entry_in (group (one_cell k (one_cell v no_cells))) = Some (k, v)
entry_in _ = None

-- the value of an entry of that key, else what was found before it
abbrev pub entry_value : List ℕ → Field → Option (Datum × Datum) → Option Data → Option Data
entry_value q f None found = found
entry_value q f (Some e) found = if bytes_eq (entry_key e.0) q then present (Some (json_in e.1 f)) else found

-- after an entry of a map went in, if there is one
abbrev pub after_entry : Option (Datum × Datum) → List Slot → List Slot
after_entry None es = es
after_entry (Some e) es = fin.put (slice_cmp nat_cmp) (entry_key e.0) (slot_in e.1) es

-- after the entries of a map went in, one after another
abbrev pub after_entries : Cells → List Slot → List Slot
after_entries no_cells es = es
after_entries (one_cell c cs) es = after_entries cs (after_entry (entry_in c) es)

-- the slots of an object, in the order of its keys
abbrev pub slots_in : Members → List Slot
slots_in no_members = []
slots_in (member k d ms) = (k, text_or_null d) ∷ slots_in ms

-- after a field of a group went in, where it has a value
abbrev pub after_group_field : List ℕ → Option Data → List Slot → List Slot
after_group_field name None es = es
after_group_field name (Some d) es = fin.put (slice_cmp nat_cmp) name (text_or_null d) es
