-- The JSON object that a row stands for, as serde_json describes objects.
use Rattle.std.specs.Prelude.{ℕ, ℤ, pos, negsuc, List, []}
use Rattle.serde_json.specs.Data.{Num, unsigned, negative, Data, boolean, number, string, array, object, Items, no_items, item, Members, no_members, put}
use Rattle.serde_json.specs.Data as json
use Rattle.dk_pqmodel.specs.Shape.{Shape, leaf, map_of, Field, Fields, no_fields, one_field, key, root, field_name, shape_in, fields_at, element_at}
use Rattle.dk_pqmodel.specs.Shape as shape
use Rattle.dk_pqmodel.specs.Datum.{Value, flag, int, chars, Datum, null, atom, group, list, Cells, no_cells, one_cell}

abbrev pub whole_num : ℤ → Num
whole_num (pos n) = unsigned n
whole_num (negsuc n) = negative (negsuc n)

abbrev pub value_json : Value → Data
value_json (flag b) = boolean b
value_json (int n) = number (whole_num n)
value_json (chars t) = string t

-- the key of an entry of a map
abbrev pub entry_key : Datum → List ℕ
entry_key (atom (chars t)) = t
entry_key c = []

-- A value that isn't null is a member under the name.
abbrev pub put_present : List ℕ → Datum → Data → Members → Members
put_present name null d ms = ms
put_present name (atom v) d ms = put name d ms
put_present name (group cs) d ms = put name d ms
put_present name (list cs) d ms = put name d ms

-- the field of a map's values
abbrev pub value_at : Shape → Field
value_at (leaf l) = key
value_at (shape.group fs) = key
value_at (shape.list f) = key
value_at (map_of f) = f

-- a list is an array, a map an object
abbrev pub list_or_map : Shape → Items → Members → Data
list_or_map (map_of f) ds ms = object ms
list_or_map s ds ms = array ds

-- A group is an object of its fields that aren't null.
abbrev mutual
  pub json_in : Datum → Field → Data
  json_in null f = json.null
  json_in (atom v) f = value_json v
  json_in (group cs) f = object (members_of cs (fields_at (shape_in f)))
  json_in (list cs) f = list_or_map (shape_in f) (items_of cs (element_at (shape_in f))) (entries_of cs (value_at (shape_in f)) no_members)

  pub members_of : Cells → Fields → Members
  members_of no_cells fs = no_members
  members_of (one_cell c cs) no_fields = no_members
  members_of (one_cell c cs) (one_field f fs) = put_present (field_name f) c (json_in c f) (members_of cs fs)

  pub items_of : Cells → Field → Items
  items_of no_cells f = no_items
  items_of (one_cell c cs) f = item (json_in c f) (items_of cs f)

  -- In a map the last entry of a repeated key counts, and null values stay.
  pub entries_of : Cells → Field → Members → Members
  entries_of no_cells f ms = ms
  entries_of (one_cell (group (one_cell k (one_cell v no_cells))) cs) f ms = entries_of cs f (put (entry_key k) (json_in v f) ms)
  entries_of (one_cell c cs) f ms = entries_of cs f ms

-- the object of a row
abbrev pub data_of : Fields → Datum → Data
data_of fs row = json_in row (root fs)
