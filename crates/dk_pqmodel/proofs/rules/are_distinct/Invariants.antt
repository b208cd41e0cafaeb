use Rattle.std.proofs.Common.{◌≡◌, drop}
use Rattle.dk_pqmodel.specs.NodeView.{fields_of}
use Rattle.dk_pqmodel.specs.Schema.{are_distinct}
use Rattle.dk_pqmodel.proofs.rules.are_distinct.Given as goal

abbrev pub invariant-loop-i : goal.invariant-loop-i
invariant-loop-i l = are_distinct (fields_of (drop l.i l.nodes)) ≡ are_distinct (fields_of l.nodes)
