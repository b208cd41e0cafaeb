use Rattle.std.proofs.Common.{◌≡◌, drop}
use Rattle.dk_model.specs.State.{steps}
use Rattle.dk_model.proofs.state.TableState.apply.Given as goal

-- what the steps left make of the state is what all make of the first
abbrev pub invariant-actions : goal.invariant-actions
invariant-actions l = steps l.self (drop l.action-index l.action-items) ≡ steps l.fn.self l.fn.commit
