use Rattle.std.proofs.Common.{◌≡◌, drop}
use Rattle.dk_pqmodel.specs.NodeView.{fields_of}
use Rattle.dk_pqmodel.specs.Schema.{is_named}
use Rattle.dk_pqmodel.proofs.rules.is_named.Given as goal

abbrev pub invariant-loop-i : goal.invariant-loop-i
invariant-loop-i l = is_named l.name (fields_of (drop l.i l.nodes)) ≡ is_named l.name (fields_of (drop l.first l.nodes))
