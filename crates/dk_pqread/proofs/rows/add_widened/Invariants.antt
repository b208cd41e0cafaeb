use Rattle.std.proofs.Common.{◌≡◌, length}
use Rattle.std.specs.Vec.Iter.{into_iter_items, into_iter_len}
use Rattle.dk_pqmodel.specs.Projection.{rows_widened}
use Rattle.dk_pqmodel.specs.RowView.{rows_of}
use Rattle.dk_pqread.specs.Cells.{cells_then}
use Rattle.dk_pqread.specs.PlanView.{plans_of}
use Rattle.dk_pqread.proofs.rows.add_widened.Given as goal

abbrev pub invariant-loop-row : goal.invariant-loop-row
invariant-loop-row l =
    (cells_then (rows_of l.rows.items) (rows_widened (plans_of l.plans) (rows_of (into_iter_items l.row-iterator)))
    ≡ cells_then (rows_of l.initial.rows.items) (rows_widened (plans_of l.plans) (rows_of l.fn.own.items)))
    × (into_iter_len l.row-iterator ≡ length (into_iter_items l.row-iterator))
