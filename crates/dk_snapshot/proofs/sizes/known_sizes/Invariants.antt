use Rattle.std.proofs.Common.{◌≡◌, map, take}
use Rattle.dk_snapshot.specs.Sizes.{known_size}
use Rattle.dk_snapshot.specs.Steps.{step_path}
use Rattle.dk_snapshot.proofs.sizes.known_sizes.Given as goal

abbrev pub invariant-loop-step : goal.invariant-loop-step
invariant-loop-step l = l.found.items ≡ map (λ step. known_size l.sizes (step_path step)) (take l.step-index l.steps)
