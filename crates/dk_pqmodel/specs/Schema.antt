-- Which fields make a schema.
use Rattle.std.specs.Prelude.{ℕ, ◌+◌, ◌≤◌, max, Bool, true, false, ◌&&◌, ◌||◌, not, IsTrue, List}
use Rattle.std.specs.Str.{bytes_eq}
use Rattle.dk_pqmodel.specs.Shape.{Shape, leaf, group, list, map_of, Field, field, Fields, no_fields, one_field, field_name}

abbrev pub has_fields : Fields → Bool
has_fields no_fields = false
has_fields (one_field f fs) = true

-- whether a field has the name
abbrev pub is_named : List ℕ → Fields → Bool
is_named name no_fields = false
is_named name (one_field f fs) = bytes_eq name (field_name f) || is_named name fs

-- no two fields with one name
abbrev pub are_distinct : Fields → Bool
are_distinct no_fields = true
are_distinct (one_field f fs) = not (is_named (field_name f) fs) && are_distinct fs

-- each group inside has a field, and no two with one name
abbrev mutual
  pub is_sound_shape : Shape → Bool
  is_sound_shape (leaf l) = true
  is_sound_shape (group fs) = has_fields fs && are_distinct fs && are_sound fs
  is_sound_shape (list f) = is_sound f
  is_sound_shape (map_of f) = is_sound f

  pub is_sound : Field → Bool
  is_sound (field name nullable s) = is_sound_shape s

  pub are_sound : Fields → Bool
  are_sound no_fields = true
  are_sound (one_field f fs) = is_sound f && are_sound fs

-- How many levels of fields there are. The element of a list and the value of a map are one level below it.
abbrev mutual
  pub levels_at : Shape → ℕ
  levels_at (leaf l) = 0
  levels_at (group fs) = levels_of fs
  levels_at (list f) = levels_in f
  levels_at (map_of f) = levels_in f

  pub levels_in : Field → ℕ
  levels_in (field name nullable s) = 1 + levels_at s

  pub levels_of : Fields → ℕ
  levels_of no_fields = 0
  levels_of (one_field f fs) = max (levels_in f) (levels_of fs)

abbrev pub most_levels : ℕ
most_levels = 32

-- At least one field at the top and in each group, distinct names in each, and at most 32 levels.
pub record IsSchema (fs : Fields) : Type 0 where
  pub some : IsTrue (has_fields fs)
  pub distinct : IsTrue (are_distinct fs)
  pub sound : IsTrue (are_sound fs)
  pub levels : levels_of fs ≤ most_levels
