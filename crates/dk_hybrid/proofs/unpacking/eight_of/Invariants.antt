use Rattle.std.proofs.Common.{◌≡◌, ◌-◌, ◌^◌, ◌++◌, take, length}
use Rattle.dk_grammar.specs.Digits.{digits_of}
use Rattle.dk_hybrid.proofs.unpacking.eight_of.Given as goal

abbrev pub invariant-loop-i : goal.invariant-loop-i
invariant-loop-i l = record {
  same : take l.i l.values ++ digits_of (2 ^ l.width) (8 - l.i) l.rest ≡ digits_of (2 ^ l.width) 8 l.group;
  eight : length l.values ≡ 8;
}
