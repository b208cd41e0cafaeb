use Rattle.std.proofs.Common.{◌≤◌, ◌+◌}
use Rattle.dk_segment.specs.Walked.{steps_known}
use Rattle.dk_segment.proofs.StepWalks.{IsWalking}
use Rattle.dk_segment.proofs.stepping.walk_to.Given as goal

abbrev pub invariant-loop-step : goal.invariant-loop-step
invariant-loop-step l = record {
  walking : IsWalking (steps_known l.commits l.reaches l.staged_first) l.asked l.first l._step l.next l.found.items;
  within : l.next ≤ l.asked + 1;
}
