-- Walking the nodes of a schema, leaf by leaf.
use Rattle.std.proofs.Common.{◌≡◌, ℕ, Bor, List, ◌++◌}
use Rattle.dk_pqmodel.specs.FileMeans.{columns_of}
use Rattle.dk_pqmodel.specs.FilePages.{ColumnAt}
use Rattle.dk_pqmodel.specs.NodeView.{fields_of}
use Rattle.dk_pqmodel.specs.Shape.{deepest_of}
use Rattle.dk_pqmodel.specs.declared.node.Node.{Node}
use Rattle.dk_pqwrite.specs.OverItself.{own_plans}
use Rattle.dk_pqwrite.specs.SchemaLeaves.{HasRoom, walked_names}
use Rattle.dk_pqwrite.specs.declared.leaves.Depth.{Depth}

-- of nodes beside one another: the path is that of their group again, the columns so far and those of the nodes left are all, and the levels
-- of those left have room
pub record LeftToWalk (nodes : List Node) (depth : Depth) (path before : List (Bor (List ℕ))) (done all : List ColumnAt) : Type 0 where
  pub same : path ≡ before
  pub adds : done ++ columns_of (own_plans (fields_of nodes) (walked_names before)) depth.rep depth.def ≡ all
  pub room : HasRoom depth (deepest_of (fields_of nodes))
