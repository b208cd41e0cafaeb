use Rattle.std.proofs.Common.{◌≡◌, drop, length, take}
use Rattle.std.specs.Vec.Iter.{into_iter_items}
use Rattle.dk_pqmodel.specs.Projection.{pair_of, turned_all, widened, widened_each}
use Rattle.dk_pqmodel.specs.RowView.{cells_of}
use Rattle.dk_pqread.specs.Cells.{cells_then}
use Rattle.dk_pqread.specs.PlanView.{plan_of, plans_of}
use Rattle.dk_pqread.proofs.widen.+widen.Given as goal

abbrev pub invariant-widen_each-loop-plan : goal.invariant-widen_each-loop-plan
invariant-widen_each-loop-plan l =
    cells_then (cells_of l.wide.items) (widened_each (plans_of (drop l.plan-index l.plans)) (cells_of (into_iter_items l.own))) ≡ widened_each (plans_of l.plans) (cells_of l.fn.cells.items)

abbrev pub invariant-widen_all-loop-place : goal.invariant-widen_all-loop-place
invariant-widen_all-loop-place l =
    (length l.cells ≡ length l.initial.cells)
    × (cells_then (cells_of (take l.place l.cells)) (turned_all (widened (plan_of l.plan)) (cells_of (drop l.place l.cells))) ≡ turned_all (widened (plan_of l.plan)) (cells_of l.initial.cells))

abbrev pub invariant-widen_entries-loop-place : goal.invariant-widen_entries-loop-place
invariant-widen_entries-loop-place l =
    (length l.cells ≡ length l.initial.cells)
    × (cells_then (cells_of (take l.place l.cells)) (turned_all (pair_of (widened (plan_of l.value))) (cells_of (drop l.place l.cells)))
    ≡ turned_all (pair_of (widened (plan_of l.value))) (cells_of l.initial.cells))
