use Rattle.std.proofs.Common.{◌≡◌, reverse, vec_len}
use Rattle.std.specs.List.{AllByRecursion}
use Rattle.dk_model.specs.ReadBack.{HasVersionsInRange}
use Rattle.dk_model.specs.State.{steps, empty_state}
use Rattle.dk_model.specs.WellKept.{IsWellKept}
use Rattle.dk_snapshot.proofs.folding.fold_newest_first.Given as goal

-- the actions that are left, from the state so far on, lead where all actions lead, and their versions are in range
abbrev pub invariant-loop-action : goal.invariant-loop-action
invariant-loop-action l = (steps l.state (reverse l.newest_first.items) ≡ steps empty_state (reverse l.fn.newest_first.items))
    × AllByRecursion HasVersionsInRange (reverse l.newest_first.items)
    × IsWellKept l.state

abbrev pub decreases-loop-action : goal.decreases-loop-action
decreases-loop-action l = vec_len l.newest_first
