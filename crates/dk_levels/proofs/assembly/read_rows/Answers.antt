use Rattle.std.proofs.Common.{arith, sym, ap}
use Rattle.std.specs.Option.{option_map}
use Rattle.std.proofs.lemmas.Result.{err_from_is_err_and}
use Rattle.dk_pqmodel.specs.Shape.{root}
use Rattle.dk_pqmodel.specs.Datum.{group}
use Rattle.dk_pqmodel.specs.NodeView.{fields_of}
use Rattle.dk_pqmodel.specs.RowView.{rows_of}
use Rattle.dk_levels.specs.Fronts.{fronts}
use Rattle.dk_levels.specs.Reading.{cell_at, begins, at_repetition}
use Rattle.dk_levels.proofs.Cursors.{later_done, later_fails, rows_more, fails_map}
use Rattle.dk_levels.proofs.assembly.read_rows.Goals as goal

pub returns-then-not-is_at_repetition : goal.returns-then-not-is_at_repetition
returns-then-not-is_at_repetition c =
    let e = sym c.triples_left-most.ensures in
    rw e (later_done _ (λ ds. begins (at_repetition 0) ds 0) _ (fronts c.loop-i.rest) _ _ (sym c.if-not-is_at_repetition.ensures) c.loop-i.invariant)

pub returns-else-is_at_repetition : goal.returns-else-is_at_repetition
returns-else-is_at_repetition c =
    let e = sym c.triples_left-most.ensures in
    rw e (later_done _ (λ ds. begins (at_repetition 0) ds 0) _ (fronts c.loop-i.rest) _ _ (sym c.if-is_at_repetition.ensures) c.loop-i.invariant)

pub returns-in_err-cells : goal.returns-in_err-cells
returns-in_err-cells c =
    let e = sym c.triples_left-most.ensures in
    let p = err_from_is_err_and c.from_residual.result c.from_residual.ensures.1 in
    rw (p.1, p.2, e)
    (later_fails (cell_at (root (fields_of c.args.nodes.now)) 0 0 0 0) (λ ds. begins (at_repetition 0) ds 0) _ c.loop-i.i (fronts c.loop-i.rest) (rows_of c.loop-i.rows.items) _ c.in_err-cells.field-0.0
    (sym c.if-not-is_at_repetition.ensures) (omega arith) (fails_map c.in_err-cells.field-0.0 _ c.in_err-cells.ensures.cells) c.loop-i.invariant)

pub loop-i-preserved : goal.loop-i-preserved
loop-i-preserved c =
    rows_more (cell_at (root (fields_of c.args.nodes.now)) 0 0 0 0) (λ ds. begins (at_repetition 0) ds 0) _ c.loop-i.i (fronts c.loop-i.rest) (fronts c.read_each.new.rest) c.loop-i.rows.items c.push.new.self.items (record { cells = c.in_ok-cells.cells }) _
    (sym c.if-not-is_at_repetition.ensures) (omega arith) (ap (option_map (λ p. (group p.0, p.1))) c.in_ok-cells.ensures.cells) c.in_ok-push.ensures.items c.loop-i.invariant
