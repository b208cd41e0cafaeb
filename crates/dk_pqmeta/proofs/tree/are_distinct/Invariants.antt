use Rattle.std.proofs.Common.{◌≡◌, [], map, drop}
use Rattle.dk_pqmodel.specs.Footer.{are_new}
use Rattle.dk_pqmeta.specs.View.{nodes_of}
use Rattle.dk_pqmeta.proofs.tree.are_distinct.Given as goal

abbrev pub invariant-loop-node : goal.invariant-loop-node
invariant-loop-node l = are_new (map (λ name. name.now) l.names.keys) (nodes_of (drop l.node-index l.nodes)) ≡ are_new [] (nodes_of l.nodes)
