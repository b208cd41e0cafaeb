use Rattle.dk_hybrid.proofs.Written.{Completes}
use Rattle.dk_hybrid.proofs.encoding.append_number.Given as goal

-- whatever spells the rest completes the number
abbrev pub invariant-loop-rest : goal.invariant-loop-rest
invariant-loop-rest l = Completes l.fn.out.items l.number l.out.items l.rest

abbrev pub decreases-loop-rest : goal.decreases-loop-rest
decreases-loop-rest l = l.rest
