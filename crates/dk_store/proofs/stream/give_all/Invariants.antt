use Rattle.std.proofs.Common.{◌≡◌, ◌≤◌, ◌-◌, length, take}
use Rattle.dk_store.specs.Stream.{more}
use Rattle.dk_store.proofs.stream.give_all.Given as goal

abbrev pub invariant-loop-at : goal.invariant-loop-at
invariant-loop-at g l =
    (l.at ≤ length l.text)
    × ((g.O.Sink.sink_seen l.out).taken ≡ more (g.O.Sink.sink_seen l.initial.out).taken (take l.at l.text))
    × ((g.O.Sink.sink_seen l.initial.out).faults ≤ (g.O.Sink.sink_seen l.out).faults)

abbrev pub decreases-loop-at : goal.decreases-loop-at
decreases-loop-at g l = length l.text - l.at
