use Rattle.std.proofs.Common.{◌≡◌, ◌++◌, None, drop}
use Rattle.dk_times.specs.Times.{raised_from}
use Rattle.dk_times.proofs.stamps.stamped_times.Given as goal

-- the times so far, and then those of the stamps that are left, are all
abbrev pub invariant-stamps : goal.invariant-stamps
invariant-stamps l = l.times.items ++ raised_from l.before (drop l.stamp-index l.stamps) ≡ raised_from None l.fn.stamps
