use Rattle.dk_pqwrite.proofs.NodeElements.{GoesOn}
use Rattle.dk_pqwrite.proofs.nodes.+elements.Given as goal

abbrev pub invariant-write_nodes-loop-node : goal.invariant-write_nodes-loop-node
invariant-write_nodes-loop-node l = GoesOn l.nodes l.node-index l.fn.writer l.writer
