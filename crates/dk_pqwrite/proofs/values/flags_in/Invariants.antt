use Rattle.std.proofs.Common.{◌≡◌, map, take}
use Rattle.dk_levels.specs.Borrowed.{borrowed_triple}
use Rattle.dk_pqwrite.specs.PlainValues.{flags_in}
use Rattle.dk_pqwrite.proofs.values.flags_in.Given as goal

abbrev pub invariant-loop-triple : goal.invariant-loop-triple
invariant-loop-triple l = l.flags.items ≡ flags_in (map borrowed_triple (take l.triple-index l.triples))
