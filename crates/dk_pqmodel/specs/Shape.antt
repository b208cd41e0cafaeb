-- A schema as plain data: texts, vectors and boxes are their content.
use Rattle.std.specs.Prelude.{ℕ, ◌+◌, max, Bool, false, if◌then◌else◌, List, []}

pub data Leaf : Type 0 where
  flag : Leaf
  int32 : Leaf
  int64 : Leaf
  chars : Leaf

mutual
  pub data Shape : Type 0 where
    leaf : Leaf → Shape
    group : Fields → Shape
    list : Field → Shape
    map_of : Field → Shape

  -- its name, whether it may be null, and its kind
  pub data Field : Type 0 where
    field : List ℕ → Bool → Shape → Field

  pub data Fields : Type 0 where
    no_fields : Fields
    one_field : Field → Fields → Fields

-- the key of a map, a text that can't be null
abbrev pub key : Field
key = field [] false (leaf chars)

-- an entry of a map, a group of the key and the value
abbrev pub entry : Field → Field
entry value = field [] false (group (one_field key (one_field value no_fields)))

-- the rows are groups of the fields
abbrev pub root : Fields → Field
root fs = field [] false (group fs)

abbrev pub field_name : Field → List ℕ
field_name (field name nullable s) = name

abbrev pub shape_in : Field → Shape
shape_in (field name nullable s) = s

abbrev pub is_nullable : Field → Bool
is_nullable (field name nullable s) = nullable

abbrev pub fields_at : Shape → Fields
fields_at (leaf l) = no_fields
fields_at (group fs) = fs
fields_at (list f) = no_fields
fields_at (map_of f) = no_fields

abbrev pub element_at : Shape → Field
element_at (leaf l) = key
element_at (group fs) = key
element_at (list f) = f
element_at (map_of f) = entry f

-- how many columns there are
abbrev mutual
  pub width_at : Shape → ℕ
  width_at (leaf l) = 1
  width_at (group fs) = width_of fs
  width_at (list f) = width_in f
  width_at (map_of f) = 1 + width_in f

  pub width_in : Field → ℕ
  width_in (field name nullable s) = width_at s

  pub width_of : Fields → ℕ
  width_of no_fields = 0
  width_of (one_field f fs) = width_in f + width_of fs

-- the greatest definition level, counted from here
abbrev mutual
  pub deepest_at : Shape → ℕ
  deepest_at (leaf l) = 0
  deepest_at (group fs) = deepest_of fs
  deepest_at (list f) = 1 + deepest_in f
  deepest_at (map_of f) = 1 + deepest_in f

  pub deepest_in : Field → ℕ
  deepest_in (field name nullable s) = (if nullable then 1 else 0) + deepest_at s

  pub deepest_of : Fields → ℕ
  deepest_of no_fields = 0
  deepest_of (one_field f fs) = max (deepest_in f) (deepest_of fs)
