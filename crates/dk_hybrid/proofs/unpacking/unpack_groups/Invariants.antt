use Rattle.std.proofs.Common.{◌≡◌, ◌+◌, ◌*◌, ◌/◌, ◌^◌, ◌++◌, ◌≤◌, length}
use Rattle.dk_grammar.specs.Digits.{digits_of, number_of}
use Rattle.dk_hybrid.proofs.unpacking.unpack_groups.Given as goal

abbrev pub invariant-loop-left : goal.invariant-loop-left
invariant-loop-left l = record {
  same : l.values.items ++ digits_of (2 ^ l.width) l.left (number_of 256 l.rest) ≡ l.fn.values.items ++ digits_of (2 ^ l.width) l.count (number_of 256 l.bytes);
  enough : (l.left + 7) / 8 * l.width ≤ length l.rest;
}

abbrev pub decreases-loop-left : goal.decreases-loop-left
decreases-loop-left l = l.left
