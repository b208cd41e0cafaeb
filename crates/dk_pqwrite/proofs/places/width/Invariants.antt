use Rattle.std.proofs.Common.{◌≡◌, ◌≤◌, ◌-◌, ◌^◌}
use Rattle.dk_pqwrite.proofs.places.width.Given as goal

abbrev pub decreases-loop-room : goal.decreases-loop-room
decreases-loop-room l = l.count - l.room

abbrev pub invariant-loop-room : goal.invariant-loop-room
invariant-loop-room l = record {
  power : l.room ≡ 2 ^ l.width;
  narrow : l.width ≤ 26;
}
