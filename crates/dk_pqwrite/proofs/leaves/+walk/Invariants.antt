use Rattle.std.proofs.Common.{◌++◌, drop, map}
use Rattle.dk_pqmodel.specs.FileMeans.{columns_of}
use Rattle.dk_pqmodel.specs.NodeView.{fields_of}
use Rattle.dk_pqwrite.specs.OverItself.{own_plans}
use Rattle.dk_pqwrite.specs.SchemaLeaves.{leaf_view, walked_names}
use Rattle.dk_pqwrite.proofs.SchemaLeaves.{LeftToWalk}
use Rattle.dk_pqwrite.proofs.leaves.+walk.Given as goal

abbrev pub invariant-add_nodes-loop-node : goal.invariant-add_nodes-loop-node
invariant-add_nodes-loop-node l =
    LeftToWalk (drop l.node-index l.nodes) l.depth l.walk.path.items l.initial.walk.path.items (map leaf_view l.walk.leaves.items)
    (map leaf_view l.initial.walk.leaves.items ++ columns_of (own_plans (fields_of l.nodes) (walked_names l.initial.walk.path.items)) l.depth.rep l.depth.def)
