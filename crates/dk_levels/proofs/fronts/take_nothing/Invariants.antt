use Rattle.std.proofs.Common.{◌≡◌, ◌+◌, ◌-◌}
use Rattle.dk_levels.specs.Fronts.{fronts}
use Rattle.dk_levels.specs.Reading.{nothing_at}
use Rattle.dk_levels.proofs.fronts.take_nothing.Given as goal

abbrev pub invariant-loop-i : goal.invariant-loop-i
invariant-loop-i l =
    nothing_at (l.place + l.width - l.i) l.levels.repetition l.levels.definition l.i (fronts l.rest)
    ≡ nothing_at l.width l.levels.repetition l.levels.definition l.place (fronts l.initial.rest)
