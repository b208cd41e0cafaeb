use Rattle.std.proofs.Common.{◌≡◌, ◌-◌, ◌<◌, ◌^◌, length, map, drop}
use Rattle.dk_grammar.specs.Digits.{number_of}
use Rattle.dk_grammar.specs.Plain.{bit_of}
use Rattle.dk_pqwrite.proofs.flags.byte_of.Given as goal

abbrev pub invariant-loop-place : goal.invariant-loop-place
invariant-loop-place l = record {
  number : l.byte ≡ number_of 2 (map bit_of (drop l.place l.flags));
  small : l.byte < 2 ^ (length l.flags - l.place);
}
