use Rattle.std.proofs.Common.{◌≡◌, [], ◌∷◌, length, sym, ap, ◌∙◌, arith}
use Rattle.std.specs.Vec.Iter.{into_iter_items}
use Rattle.dk_pqmodel.specs.RowView.{rows_of}
use Rattle.dk_pqread.specs.PlanView.{plans_of}
use Rattle.dk_pqread.proofs.Widening.{none_left, row_more, turned_done}
use Rattle.dk_pqread.proofs.rows.add_widened.Goals as goal

pub loop-row-preserved : goal.loop-row-preserved
loop-row-preserved c =
    let items : into_iter_items c.loop-row.row-iterator ≡ c.in-Some.row ∷ into_iter_items c.next.new.self = c.in-Some.ensures.steps.0 in (
      row_more (plans_of c.args.plans.now) c.loop-row.rows.items c.in-Some.row (rows_of (into_iter_items c.next.new.self)) _ (rw items at c.loop-row.invariant.0) _ c.push.new.self.items
          c.in_ok-cells.ensures c.in_ok-push.ensures.items,
      omega (arith, c.loop-row.invariant.1, c.in-Some.ensures.steps.1, ap length items),
    )

pub returns : goal.returns
returns c =
    let none : into_iter_items c.loop-row.row-iterator ≡ [] = none_left _ (sym c.loop-row.invariant.1 ∙ c.in-None.ensures.steps.0) in
    rw c.reserve.ensures.items at (turned_done (rows_of c.loop-row.rows.items) _ (rw none at c.loop-row.invariant.0))
