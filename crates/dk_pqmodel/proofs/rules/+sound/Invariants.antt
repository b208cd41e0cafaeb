use Rattle.std.proofs.Common.{◌≡◌, drop}
use Rattle.dk_pqmodel.specs.NodeView.{fields_of}
use Rattle.dk_pqmodel.specs.Schema.{are_sound}
use Rattle.dk_pqmodel.proofs.rules.+sound.Given as goal

abbrev pub invariant-are_sound-loop-node : goal.invariant-are_sound-loop-node
invariant-are_sound-loop-node l = are_sound (fields_of (drop l.node-index l.nodes)) ≡ are_sound (fields_of l.nodes)
