use Rattle.std.proofs.Common.{◌≡◌, ◌-◌, ◌<◌, ◌^◌, length, drop}
use Rattle.dk_grammar.specs.Digits.{number_of}
use Rattle.dk_hybrid.proofs.unpacking.number_in.Given as goal

abbrev pub invariant-loop-i : goal.invariant-loop-i
invariant-loop-i l = record {
  number : l.number ≡ number_of 256 (drop l.i l.bytes);
  small : l.number < 256 ^ (length l.bytes - l.i);
}
