use Rattle.std.proofs.Common.{◌≡◌, drop}
use Rattle.dk_pqmodel.specs.FileSchema.{named_in}
use Rattle.dk_pqmeta.specs.View.{nodes_of}
use Rattle.dk_pqread.proofs.tree.named.Given as goal

abbrev pub invariant-loop-node : goal.invariant-loop-node
invariant-loop-node l = named_in l.name (nodes_of (drop l.node-index l.nodes)) ≡ named_in l.name (nodes_of l.nodes)
