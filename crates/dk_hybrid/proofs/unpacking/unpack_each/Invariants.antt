use Rattle.std.proofs.Common.{◌≡◌, ◌+◌, ◌-◌, ◌*◌, ◌^◌, ◌++◌, ◌<◌, ◌≤◌, length, drop}
use Rattle.dk_grammar.specs.Digits.{digits_of, number_of}
use Rattle.dk_hybrid.proofs.unpacking.unpack_each.Given as goal

-- the bits ahead and the bytes behind them are the values that are left
abbrev pub invariant-loop-left : goal.invariant-loop-left
invariant-loop-left l = record {
  same : l.values.items ++ digits_of (2 ^ l.width) l.left (l.ahead + 2 ^ l.bits * number_of 256 (drop l.next l.bytes)) ≡ l.fn.values.items ++ digits_of (2 ^ l.width) l.count (number_of 256 l.bytes);
  low : l.ahead < 2 ^ l.bits;
  few : l.bits < 8;
  enough : l.left * l.width + 8 * l.next ≤ l.bits + 8 * length l.bytes;
}

abbrev pub decreases-loop-left : goal.decreases-loop-left
decreases-loop-left l = l.left

abbrev pub invariant-loop-bits : goal.invariant-loop-bits
invariant-loop-bits l = record {
  same : l.values.items ++ digits_of (2 ^ l.width) l.left (l.ahead + 2 ^ l.bits * number_of 256 (drop l.next l.bytes)) ≡ l.fn.values.items ++ digits_of (2 ^ l.width) l.count (number_of 256 l.bytes);
  low : l.ahead < 2 ^ l.bits;
  few : l.bits < l.width + 8;
  enough : l.left * l.width + 8 * l.next ≤ l.bits + 8 * length l.bytes;
}

abbrev pub decreases-loop-bits : goal.decreases-loop-bits
decreases-loop-bits l = l.width + 8 - l.bits
