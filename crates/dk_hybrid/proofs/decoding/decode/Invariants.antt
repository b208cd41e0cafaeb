use Rattle.std.proofs.Common.{length}
use Rattle.dk_hybrid.proofs.Progress.{Continues}
use Rattle.dk_hybrid.proofs.decoding.decode.Given as goal

abbrev pub invariant-loop-rest : goal.invariant-loop-rest
invariant-loop-rest l = Continues l.width l.count l.bytes l.values.items l.rest

abbrev pub decreases-loop-rest : goal.decreases-loop-rest
decreases-loop-rest l = length l.rest
