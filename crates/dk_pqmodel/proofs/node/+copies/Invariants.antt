use Rattle.std.proofs.Common.{◌≡◌, map, take}
use Rattle.dk_pqmodel.specs.NodeView.{field_of}
use Rattle.dk_pqmodel.proofs.node.+copies.Given as goal

abbrev pub invariant-copy_nodes-loop-node : goal.invariant-copy_nodes-loop-node
invariant-copy_nodes-loop-node l = map field_of l.out.items ≡ map field_of (take l.node-index l.nodes)
