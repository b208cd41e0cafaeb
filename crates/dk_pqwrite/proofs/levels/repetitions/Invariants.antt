use Rattle.std.proofs.Common.{◌≡◌, map, take}
use Rattle.dk_levels.specs.Borrowed.{borrowed_triple}
use Rattle.dk_pqwrite.proofs.levels.repetitions.Given as goal

abbrev pub invariant-loop-triple : goal.invariant-loop-triple
invariant-loop-triple l = l.levels.items ≡ map (λ e. e.repetition) (map borrowed_triple (take l.triple-index l.triples))
