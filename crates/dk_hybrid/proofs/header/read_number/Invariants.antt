use Rattle.std.proofs.Common.{ℕ, ◌<◌, ◌≤◌, get_or}
use Rattle.dk_hybrid.proofs.header.read_number.Given as goal

abbrev pub invariant-loop-last : goal.invariant-loop-last
invariant-loop-last l = (i : ℕ) → i < l.last → 128 ≤ get_or l.bytes i 0
