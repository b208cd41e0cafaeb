use Rattle.std.proofs.Common.{◌≡◌, ◌+◌, ◌-◌, ◌*◌, ◌^◌, ◌++◌, ◌<◌}
use Rattle.std.specs.List.{All}
use Rattle.dk_grammar.specs.Digits.{digits_of, number_of}
use Rattle.dk_hybrid.proofs.packing.pack.Given as goal

-- the bits ahead and the values behind them are the bytes that are left
abbrev pub invariant-loop-left : goal.invariant-loop-left
invariant-loop-left l = record {
  same : l.out.items ++ digits_of 256 l.left (l.ahead + 2 ^ l.bits * number_of (2 ^ l.width) l.rest) ≡ l.fn.out.items ++ digits_of 256 l.count (number_of (2 ^ l.width) l.values);
  low : l.ahead < 2 ^ l.bits;
  few : l.bits < l.width + 8;
  some : 0 < l.left → 0 < l.width;
  fit : All (λ value. value < 2 ^ l.width) l.rest;
}

abbrev pub decreases-loop-left : goal.decreases-loop-left
decreases-loop-left l = l.left

abbrev pub invariant-loop-bits : goal.invariant-loop-bits
invariant-loop-bits l = record {
  same : l.out.items ++ digits_of 256 l.left (l.ahead + 2 ^ l.bits * number_of (2 ^ l.width) l.rest) ≡ l.fn.out.items ++ digits_of 256 l.count (number_of (2 ^ l.width) l.values);
  low : l.ahead < 2 ^ l.bits;
  few : l.bits < l.width + 8;
  some : 0 < l.left → 0 < l.width;
  fit : All (λ value. value < 2 ^ l.width) l.rest;
}

abbrev pub decreases-loop-bits : goal.decreases-loop-bits
decreases-loop-bits l = 8 - l.bits
