use Rattle.std.proofs.Common.{take}
use Rattle.dk_segment.specs.Places.{HasReaches}
use Rattle.dk_segment.proofs.compacted.reaches_of.Given as goal

abbrev pub invariant-loop-named : goal.invariant-loop-named
invariant-loop-named l = HasReaches l.reaches (take l.named-index l.log) l.asked
