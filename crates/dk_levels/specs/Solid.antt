-- Which fields can be read: each group has a field, so each field has a column.
use Rattle.std.specs.Prelude.{◌<◌, ⊤}
use Rattle.dk_pqmodel.specs.Shape.{Shape, leaf, group, list, map_of, Field, field, Fields, no_fields, one_field, width_of, deepest_of}

abbrev mutual
  pub IsSolidShape : Shape → Type 0
  IsSolidShape (leaf l) = ⊤
  IsSolidShape (group fs) = (0 < width_of fs) × AreSolid fs
  IsSolidShape (list f) = IsSolid f
  IsSolidShape (map_of f) = IsSolid f

  pub IsSolid : Field → Type 0
  IsSolid (field name nullable s) = IsSolidShape s

  pub AreSolid : Fields → Type 0
  AreSolid no_fields = ⊤
  AreSolid (one_field f fs) = IsSolid f × AreSolid fs

-- there is a column, each field has one, and the definition levels are bytes
pub record AreReadable (fs : Fields) : Type 0 where
  pub wide : 0 < width_of fs
  pub solid : AreSolid fs
  pub deep : deepest_of fs < 256
