use Rattle.std.proofs.Common.{◌≤◌, reverse, length}
use Rattle.std.specs.List.{AllByRecursion}
use Rattle.dk_store.specs.Seen.{IfTold, Stays}
use Rattle.dk_model.specs.ReadBack.{HasVersionsInRange}
use Rattle.dk_snapshot.specs.Steps.{AreSized}
use Rattle.dk_snapshot.proofs.StepReads.{AreRead}
use Rattle.dk_snapshot.proofs.steps.read_steps.Given as goal

-- the store was read alone, and the steps that are left have the changes read so far behind them
abbrev pub invariant-loop-place : goal.invariant-loop-place
invariant-loop-place g l =
    let now = (goal.Store-dyn g l.store.now).seen l.store.now.1 in
    let before = (goal.Store-dyn g l.initial.store.now).seen l.initial.store.now.1 in
    Stays before now
    × IfTold before (λ events. AreSized events l.steps l.sizes → AreRead events l.limit l.steps l.place (reverse l.found.items))
    × (l.place ≤ length l.steps)
    × AllByRecursion HasVersionsInRange (reverse l.found.items)
