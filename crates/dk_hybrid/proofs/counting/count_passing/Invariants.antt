use Rattle.std.proofs.Common.{length}
use Rattle.dk_hybrid.proofs.Counted.{CountsOn}
use Rattle.dk_hybrid.proofs.counting.count_passing.Given as goal

abbrev pub invariant-loop-left : goal.invariant-loop-left
invariant-loop-left l = CountsOn l.width l.count l.test l.bytes l.found l.left l.rest

abbrev pub decreases-loop-left : goal.decreases-loop-left
decreases-loop-left l = length l.rest
