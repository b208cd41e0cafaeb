use Rattle.std.proofs.Common.{◌≡◌, ◌+◌, drop}
use Rattle.dk_pqmodel.specs.Shape.{width_of}
use Rattle.dk_pqmodel.specs.NodeView.{fields_of}
use Rattle.dk_levels.proofs.width.+left.Given as goal

abbrev pub invariant-columns_left-loop-node : goal.invariant-columns_left-loop-node
invariant-columns_left-loop-node l = l.left + width_of (fields_of l.nodes) ≡ l.columns + width_of (fields_of (drop l.node-index l.nodes))
