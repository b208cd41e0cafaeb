use Rattle.std.proofs.Common.{◌≡◌}
use Rattle.std.specs.Vec.Iter.{into_iter_items}
use Rattle.dk_model.specs.State.{steps}
use Rattle.dk_model.proofs.state.TableState.absorb.Given as goal

-- what the steps left make of the state is what all make of the first
abbrev pub invariant-actions : goal.invariant-actions
invariant-actions l = steps l.self (into_iter_items l.action-iterator) ≡ steps l.fn.self l.fn.commit
