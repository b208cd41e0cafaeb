use Rattle.std.proofs.Common.{◌≡◌, ◌≤◌, drop, length}
use Rattle.dk_thrift.specs.Groups.{groups_value}
use Rattle.dk_thrift.proofs.numbers.value_of.Given as goal

abbrev pub invariant-loop-place : goal.invariant-loop-place
invariant-loop-place l = (l.value ≡ groups_value (drop l.place l.bytes)) × (l.place ≤ length l.bytes)
