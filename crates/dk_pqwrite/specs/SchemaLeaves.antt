-- The leaves of a schema, as plain data.
use Rattle.std.specs.Prelude.{◌≡◌, ◌+◌, ◌<◌, ◌≤◌, ℕ, List, [], ◌∷◌, ◌++◌, codes, map, string_bytes}
use Rattle.std.specs.Borrow.{Bor}
use Rattle.dk_pqmodel.specs.FileMeans.{columns_in}
use Rattle.dk_pqmodel.specs.FilePages.{ColumnAt}
use Rattle.dk_pqmodel.specs.Projection.{Path}
use Rattle.dk_pqmodel.specs.Shape.{Field}
use Rattle.dk_pqwrite.specs.OverItself.{own_plan_in}
use Rattle.dk_pqwrite.specs.WrittenColumn.{leaf_column_at, leaf_of_kind}
use Rattle.dk_pqwrite.specs.declared.column.LeafKind.{LeafKind}
use Rattle.dk_pqwrite.specs.declared.column.LeafKind.TheVariants.{Chars}
use Rattle.dk_pqwrite.specs.declared.leaves.LeafWalk.{LeafWalk}
use Rattle.dk_pqwrite.specs.declared.leaves.Depth.{Depth}
use Rattle.dk_pqwrite.specs.declared.leaves.SchemaLeaf.{SchemaLeaf}

-- a leaf's column, at its path
abbrev pub leaf_view : SchemaLeaf → ColumnAt
leaf_view leaf = leaf_column_at (map string_bytes leaf.path.items) leaf.column

-- the names of a path that is walked
abbrev pub walked_names : List (Bor (List ℕ)) → Path
walked_names names = map (λ name. name.now) names

-- Leaves with these columns are added, and the walk stands where it stood.
pub record AddsLeaves (columns : List ColumnAt) (old new : LeafWalk) : Type 0 where
  pub leaves : map leaf_view new.leaves.items ≡ map leaf_view old.leaves.items ++ columns
  pub path : new.path.items ≡ old.path.items

-- So many levels more stay below 256, and no more lists and maps are around than there are levels.
pub record HasRoom (depth : Depth) (more : ℕ) : Type 0 where
  pub deep : depth.def + more < 256
  pub lists : depth.rep ≤ depth.def

abbrev pub one_leaf_column : Path → LeafKind → ℕ → ℕ → List ColumnAt
one_leaf_column path kind rep def = record { path = path; kind = leaf_of_kind kind; rep = rep; def = def } ∷ []

-- of an entry of the map of this path: the key's, and then the value's
abbrev pub entry_columns : Field → Path → ℕ → ℕ → List ColumnAt
entry_columns value path rep def =
    one_leaf_column (path ++ codes "key_value" ∷ codes "key" ∷ []) Chars rep def ++ columns_in (own_plan_in value (path ++ codes "key_value" ∷ codes "value" ∷ [])) rep def
