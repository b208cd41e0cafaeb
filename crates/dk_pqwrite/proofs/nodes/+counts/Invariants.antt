use Rattle.std.proofs.Common.{◌≡◌, ◌+◌, length, drop}
use Rattle.dk_pqmodel.specs.NodeView.{fields_of}
use Rattle.dk_pqwrite.specs.Written.{written_nodes}
use Rattle.dk_pqwrite.specs.Elements.{said_of}
use Rattle.dk_pqwrite.proofs.nodes.+counts.Given as goal

-- those so far and those that are left are all
abbrev pub invariant-count_nodes-loop-node : goal.invariant-count_nodes-loop-node
invariant-count_nodes-loop-node l = l.count + length (said_of (written_nodes (fields_of (drop l.node-index l.nodes)))) ≡ length (said_of (written_nodes (fields_of l.fn.nodes)))
