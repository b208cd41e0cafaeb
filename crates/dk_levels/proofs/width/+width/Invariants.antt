use Rattle.std.proofs.Common.{◌≡◌, ◌+◌, drop}
use Rattle.dk_pqmodel.specs.Shape.{width_of}
use Rattle.dk_pqmodel.specs.NodeView.{fields_of}
use Rattle.dk_levels.proofs.width.+width.Given as goal

abbrev pub invariant-width_all-loop-node : goal.invariant-width_all-loop-node
invariant-width_all-loop-node l = l.sum + width_of (fields_of (drop l.node-index l.nodes)) ≡ width_of (fields_of l.nodes)
