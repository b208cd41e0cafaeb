use Rattle.std.proofs.Common.{pos}
use Rattle.dk_grammar.specs.Grammar.{SpellsWhole}
use Rattle.dk_pqwrite.proofs.Structs.{GoesOn}
use Rattle.dk_pqwrite.proofs.chunk.write_wholes.Given as goal

abbrev pub invariant-loop-number : goal.invariant-loop-number
invariant-loop-number l = GoesOn SpellsWhole pos (λ n. 2) l.numbers l.number-index l.fn.writer l.writer
