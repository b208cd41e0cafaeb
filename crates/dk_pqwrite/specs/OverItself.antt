-- A schema laid over the one that is written for it.
use Rattle.std.specs.Prelude.{Bool, false, [], ◌∷◌, ◌++◌, codes}
use Rattle.dk_pqmodel.specs.Shape.{Shape, leaf, map_of, Field, field, Fields, no_fields, one_field, entry}
use Rattle.dk_pqmodel.specs.Shape as shape
use Rattle.dk_pqmodel.specs.FilePages.{ColumnAt}
use Rattle.dk_pqmodel.specs.Footer.{Chunk}
use Rattle.dk_pqmodel.specs.Projection.{Path, Plan, value, members, elements, entries, Plans, no_plans, one_plan}

-- The fields without their names, where a map is a list of its entries.
abbrev mutual
  pub bare_at : Shape → Shape
  bare_at (leaf l) = leaf l
  bare_at (shape.group fs) = shape.group (bare fs)
  bare_at (shape.list f) = shape.list (bare_in f)
  bare_at (map_of f) = shape.list (entry (bare_in f))

  pub bare_in : Field → Field
  bare_in (field name nullable s) = field [] nullable (bare_at s)

  pub bare : Fields → Fields
  bare no_fields = no_fields
  bare (one_field f fs) = one_field (bare_in f) (bare fs)

-- Each field is read, as it is wanted, at the path that it is written at.
abbrev mutual
  pub own_plan_at : Shape → Bool → Path → Plan
  own_plan_at (leaf l) b path = value b l path
  own_plan_at (shape.group fs) b path = members b (own_plans fs path)
  own_plan_at (shape.list f) b path = elements b (own_plan_in f (path ++ codes "list" ∷ codes "element" ∷ []))
  own_plan_at (map_of f) b path = entries b false (path ++ codes "key_value" ∷ codes "key" ∷ []) (own_plan_in f (path ++ codes "key_value" ∷ codes "value" ∷ []))

  -- of a field whose path is given
  pub own_plan_in : Field → Path → Plan
  own_plan_in (field name nullable s) path = own_plan_at s nullable path

  pub own_plan_named : Field → Path → Plan
  own_plan_named (field name nullable s) path = own_plan_at s nullable (path ++ name ∷ [])

  -- of the fields in a group of this path
  pub own_plans : Fields → Path → Plans
  own_plans no_fields path = no_plans
  own_plans (one_field f fs) path = one_plan (own_plan_named f path) (own_plans fs path)

-- the path of a chunk, and of a column
abbrev pub chunk_path : Path × Chunk → Path
chunk_path chunk = chunk.0

abbrev pub column_path : ColumnAt → Path
column_path column = column.path
