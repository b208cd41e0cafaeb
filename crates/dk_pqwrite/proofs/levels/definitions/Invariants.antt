use Rattle.std.proofs.Common.{◌≡◌, map, take}
use Rattle.dk_levels.specs.Borrowed.{borrowed_triple}
use Rattle.dk_pqwrite.proofs.levels.definitions.Given as goal

abbrev pub invariant-loop-triple : goal.invariant-loop-triple
invariant-loop-triple l = l.levels.items ≡ map (λ e. e.definition) (map borrowed_triple (take l.triple-index l.triples))
