use Rattle.std.proofs.Common.{◌≡◌, take, replicate, get_or}
use Rattle.dk_hybrid.proofs.encoding.equal_values.Given as goal

abbrev pub invariant-loop-i : goal.invariant-loop-i
invariant-loop-i l = take l.i l.values ≡ replicate l.i (get_or l.values 0 0)
