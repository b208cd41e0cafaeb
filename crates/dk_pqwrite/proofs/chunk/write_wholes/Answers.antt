use Rattle.std.proofs.Common.{rules, ◌≤◌, length, map, pos, subst}
use Rattle.dk_grammar.specs.Grammar.{SpellsWhole}
use Rattle.dk_grammar.specs.Lists.{SpellsEach}
use Rattle.dk_pqwrite.specs.Items.{WritesValue}
use Rattle.dk_pqwrite.proofs.Structs.{all_values, sum_of_twos}
use Rattle.dk_pqwrite.proofs.chunk.write_wholes.Goals as goal

pub returns : goal.returns
returns c =
    let numbers = c.args.numbers.now in
    let past : length numbers ≤ c.loop-number.number-index = search rules in
    subst (λ most. WritesValue (SpellsEach SpellsWhole) (map pos numbers) most c.args.writer.now c.loop-number.writer) (sum_of_twos numbers)
    (all_values SpellsWhole pos (λ n. 2) numbers c.loop-number.number-index c.args.writer.now c.loop-number.writer past c.loop-number.invariant)
