use Rattle.std.proofs.Common.{◌≡◌, ◌-◌, ◌++◌, map, take}
use Rattle.dk_grammar.specs.Digits.{digits_of}
use Rattle.dk_pqmodel.specs.ColumnView.{value_of}
use Rattle.dk_pqread.specs.Values.{flag_of}
use Rattle.dk_pqread.proofs.plain.push_bits.Given as goal

abbrev pub invariant-loop : goal.invariant-loop
invariant-loop l =
    map value_of l.flags.items ++ map flag_of (take (l.most - l.counter) (digits_of 2 (8 - l.counter) l.bits))
    ≡ map value_of l.initial.flags.items ++ map flag_of (take l.most (digits_of 2 8 l.byte))
