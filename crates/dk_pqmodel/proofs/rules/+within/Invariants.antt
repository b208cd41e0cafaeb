use Rattle.std.proofs.Common.{drop}
use Rattle.dk_pqmodel.specs.NodeView.{fields_of}
use Rattle.dk_pqmodel.specs.Schema.{levels_of}
use Rattle.dk_pqmodel.proofs.Testing.{LevelsLeft}
use Rattle.dk_pqmodel.proofs.rules.+within.Given as goal

abbrev pub invariant-are_within-loop-node : goal.invariant-are_within-loop-node
invariant-are_within-loop-node l = LevelsLeft (levels_of (fields_of (drop l.node-index l.nodes))) (levels_of (fields_of l.nodes)) l.most
