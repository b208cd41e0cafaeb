-- Whatever bytes are the flags that are left, behind what is added they are all flags.
use Rattle.std.proofs.Common.{length}
use Rattle.dk_pqwrite.proofs.Packing.{Goes}
use Rattle.dk_pqwrite.proofs.flags.add_flags.Given as goal

abbrev pub decreases-loop-rest : goal.decreases-loop-rest
decreases-loop-rest l = length l.rest

abbrev pub invariant-loop-rest : goal.invariant-loop-rest
invariant-loop-rest l = Goes l.flags l.rest l.fn.out.items l.out.items
