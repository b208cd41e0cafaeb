use Rattle.std.proofs.Common.{map, take}
use Rattle.dk_levels.specs.Borrowed.{borrowed_triple}
use Rattle.dk_pqwrite.specs.FirstUses.{texts_in}
use Rattle.dk_pqwrite.proofs.Uses.{Kept}
use Rattle.dk_pqwrite.proofs.dictionary.dictionary_of.Given as goal

abbrev pub invariant-loop-triple : goal.invariant-loop-triple
invariant-loop-triple l = Kept l.texts.keys l.places.items (texts_in (map borrowed_triple (take l.triple-index l.triples))) l.triple-index
