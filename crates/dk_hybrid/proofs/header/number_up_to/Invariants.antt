use Rattle.std.proofs.Common.{◌+◌, drop}
use Rattle.dk_hybrid.specs.Headers.{BeginNumber}
use Rattle.dk_hybrid.proofs.header.number_up_to.Given as goal

abbrev pub invariant-loop-i : goal.invariant-loop-i
invariant-loop-i l = BeginNumber (drop l.i l.bytes) l.number (drop (l.last + 1) l.bytes)
