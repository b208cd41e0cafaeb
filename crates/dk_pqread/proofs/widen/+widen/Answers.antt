use Rattle.std.proofs.Common.{◌<◌, length, ◌∙◌, arith}
use Rattle.std.specs.Vec.Iter.{into_iter_items}
use Rattle.dk_pqmodel.specs.Projection.{pair_of, widened}
use Rattle.dk_pqmodel.specs.RowView.{cells_of}
use Rattle.dk_pqread.specs.PlanView.{plan_of}
use Rattle.dk_pqread.proofs.InPlace.{length_written, place_turned, places_turned}
use Rattle.dk_pqread.proofs.Widening.{each_done, each_more, plan_of-Elements, plan_of-Entries}
use Rattle.dk_pqread.proofs.widen.+widen.Goals as goal

pub widen-returns-in-Elements : goal.widen-returns-in-Elements
widen-returns-in-Elements t c = rw (c.in-Elements.is, plan_of-Elements c.in-Elements.optional c.in-Elements.plan) (rw c.deref-in-Elements.ensures at c.widen_list.ensures)

pub widen-returns-in-Entries : goal.widen-returns-in-Entries
widen-returns-in-Entries t c = rw (c.in-Entries.is, plan_of-Entries c.in-Entries.optional c.in-Entries.key_optional c.in-Entries.path c.in-Entries.value) (rw c.deref-in-Entries.ensures at c.widen_map.ensures)

pub widen_each-loop-plan-preserved : goal.widen_each-loop-plan-preserved
widen_each-loop-plan-preserved t c =
    each_more c.args.plans.now c.loop-plan.plan-index c.plan-item.result c.loop-plan.wide.items c.loop-plan-test.true c.plan-item.is (cells_of (into_iter_items c.loop-plan.own)) _ c.loop-plan.invariant
    c.push.new.self.items c.in_ok-widen_next.field-0 (cells_of (into_iter_items c.widen_next.new.own)) c.in_ok-widen_next.ensures c.in_ok-push.ensures.items

pub widen_each-returns : goal.widen_each-returns
widen_each-returns t c =
    each_done c.args.plans.now c.loop-plan.plan-index c.loop-plan.wide.items (cells_of (into_iter_items c.loop-plan.own)) _ c.loop-plan-test.false c.loop-plan.invariant

pub widen_all-loop-place-preserved : goal.widen_all-loop-place-preserved
widen_all-loop-place-preserved t c =
    let within : c.loop-place.place < length c.loop-place.cells = omega (arith, c.loop-place.invariant.0, c.loop-place-test.true) in (
      length_written c.loop-place.cells c.loop-place.place c.take-cell.result within c.take-cell.ensures.taken _ c.in_ok-cells.field-0 _ c.take-cell.ensures.left ∙ c.loop-place.invariant.0,
      place_turned c.loop-place.cells c.loop-place.place c.take-cell.result within c.take-cell.ensures.taken (widened (plan_of c.args.plan.now)) _ c.loop-place.invariant.1 _ c.in_ok-cells.field-0 _ c.take-cell.ensures.left
          c.in_ok-cells.ensures,
    )

pub widen_all-returns : goal.widen_all-returns
widen_all-returns t c =
    places_turned (widened (plan_of c.args.plan.now)) c.loop-place.cells c.loop-place.place _ (omega (arith, c.loop-place.invariant.0, c.loop-place-test.false)) c.loop-place.invariant.1

pub widen_entries-loop-place-preserved : goal.widen_entries-loop-place-preserved
widen_entries-loop-place-preserved t c =
    let within : c.loop-place.place < length c.loop-place.cells = omega (arith, c.loop-place.invariant.0, c.loop-place-test.true) in (
      length_written c.loop-place.cells c.loop-place.place c.take-cell.result within c.take-cell.ensures.taken _ c.in_ok-cells.field-0 _ c.take-cell.ensures.left ∙ c.loop-place.invariant.0,
      place_turned c.loop-place.cells c.loop-place.place c.take-cell.result within c.take-cell.ensures.taken (pair_of (widened (plan_of c.args.value.now))) _ c.loop-place.invariant.1 _ c.in_ok-cells.field-0 _ c.take-cell.ensures.left
          c.in_ok-cells.ensures,
    )

pub widen_entries-returns : goal.widen_entries-returns
widen_entries-returns t c =
    places_turned (pair_of (widened (plan_of c.args.value.now))) c.loop-place.cells c.loop-place.place _ (omega (arith, c.loop-place.invariant.0, c.loop-place-test.false)) c.loop-place.invariant.1
