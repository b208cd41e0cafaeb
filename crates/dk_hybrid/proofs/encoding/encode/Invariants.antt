use Rattle.std.proofs.Common.{length}
use Rattle.dk_hybrid.proofs.Made.{Encodes}
use Rattle.dk_hybrid.proofs.encoding.encode.Given as goal

abbrev pub invariant-loop-rest : goal.invariant-loop-rest
invariant-loop-rest l = Encodes l.width l.values l.out.items l.rest

abbrev pub decreases-loop-rest : goal.decreases-loop-rest
decreases-loop-rest l = length l.rest
