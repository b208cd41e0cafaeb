use Rattle.std.proofs.Common.{arith, sym, ap}
use Rattle.std.proofs.lemmas.Result.{err_from_is_err_and}
use Rattle.dk_pqmodel.specs.NodeView.{field_of}
use Rattle.dk_pqmodel.specs.RowView.{cells_of}
use Rattle.dk_levels.specs.Fronts.{fronts, repeated_at}
use Rattle.std.specs.Option.{option_map}
use Rattle.dk_pqmodel.specs.Datum.{list}
use Rattle.dk_levels.specs.Reading.{begins, at_repetition}
use Rattle.dk_levels.proofs.Put.{datum_of-List}
use Rattle.dk_levels.proofs.Begins.{wide}
use Rattle.dk_levels.proofs.Cursors.{element_wide, each_left_step, each_left_end, each_left_next, later_done, later_fails, later_more, at_List, at_Map, list_failed}
use Rattle.dk_levels.proofs.to_rows.+read.Goals as goal

pub read_cell-is_at_definition-requires : goal.read_cell-is_at_definition-requires
read_cell-is_at_definition-requires t c = omega (arith, wide (field_of c.args.node.now) c.requires.solid, c.requires.room)

pub read_list-is_at_definition-requires : goal.read_list-is_at_definition-requires
read_list-is_at_definition-requires t c = omega (arith, element_wide c.args.repeated (field_of c.args.node.now) c.requires.solid, c.requires.room)

pub read_later-is_at_repetition-requires : goal.read_later-is_at_repetition-requires
read_later-is_at_repetition-requires t c = omega (arith, element_wide c.args.repeated (field_of c.args.node.now) c.requires.solid, c.requires.room, c.loop-i.auto.rest)

pub read_later-is_at_repetition-requires-2 : goal.read_later-is_at_repetition-requires-2
read_later-is_at_repetition-requires-2 t c = omega (arith, element_wide c.args.repeated (field_of c.args.node.now) c.requires.solid, c.requires.room, c.loop-i.auto.rest)

pub read_each-loop-node-preserved : goal.read_each-loop-node-preserved
read_each-loop-node-preserved t c =
    each_left_step c.args.nodes.now c.loop-node.node-index c.node-item.result c.loop-node.cells.items c.push.new.self.items c.in_ok-cell.cell (fronts c.loop-node.rest) (fronts c.read_cell.new.rest)
    _ _ _ c.loop-node.next _ _ _ (omega arith) c.node-item.is c.in_ok-cell.ensures.cell c.in_ok-push.ensures.items c.in_ok-cell.ensures.next c.loop-node.invariant

pub read_each-returns-clause-next : goal.read_each-returns-clause-next
read_each-returns-clause-next t c = each_left_next c.args.nodes.now c.loop-node.node-index c.loop-node.cells.items (fronts c.loop-node.rest) _ _ _ _ _ _ (omega arith) c.loop-node.invariant

pub read_each-returns-clause-cells : goal.read_each-returns-clause-cells
read_each-returns-clause-cells t c = each_left_end c.args.nodes.now c.loop-node.node-index c.loop-node.cells.items (fronts c.loop-node.rest) _ _ _ _ _ _ (omega arith) c.loop-node.invariant

pub read_later-returns-then-not-is_at_repetition : goal.read_later-returns-then-not-is_at_repetition
read_later-returns-then-not-is_at_repetition t c =
    let e = sym c.triples_left-most.ensures in
    rw e (later_done _ (λ ds. begins (at_repetition c.args.levels.lists) ds c.args.place) _ (fronts c.loop-i.rest) _ _ (sym c.if-not-is_at_repetition.ensures) c.loop-i.invariant)

pub read_later-returns-else-is_at_repetition : goal.read_later-returns-else-is_at_repetition
read_later-returns-else-is_at_repetition t c =
    let e = sym c.triples_left-most.ensures in
    rw e (later_done _ (λ ds. begins (at_repetition c.args.levels.lists) ds c.args.place) _ (fronts c.loop-i.rest) _ _ (sym c.if-is_at_repetition.ensures) c.loop-i.invariant)

pub read_later-returns-in_err-cell : goal.read_later-returns-in_err-cell
read_later-returns-in_err-cell t c =
    let e = sym c.triples_left-most.ensures in
    let p = err_from_is_err_and c.from_residual.result c.from_residual.ensures.1 in
    rw (p.1, p.2, e)
    (later_fails (repeated_at c.args.repeated (field_of c.args.node.now) c.args.levels.lists c.args.levels.definition c.args.levels.lists c.args.place)
    (λ ds. begins (at_repetition c.args.levels.lists) ds c.args.place) _ c.loop-i.i (fronts c.loop-i.rest) (cells_of c.loop-i.cells.items) _ c.in_err-cell.field-0.0
    (sym c.if-not-is_at_repetition.ensures) (omega arith) (rw c.requires.later at c.in_err-cell.ensures.cell) c.loop-i.invariant)

pub read_later-loop-i-preserved : goal.read_later-loop-i-preserved
read_later-loop-i-preserved t c =
    later_more (repeated_at c.args.repeated (field_of c.args.node.now) c.args.levels.lists c.args.levels.definition c.args.levels.lists c.args.place)
    (λ ds. begins (at_repetition c.args.levels.lists) ds c.args.place) _ c.loop-i.i (fronts c.loop-i.rest) (fronts c.read_element.new.rest) c.loop-i.cells.items c.push.new.self.items c.in_ok-cell.cell _
    (sym c.if-not-is_at_repetition.ensures) (omega arith) (rw c.requires.later at c.in_ok-cell.ensures.cell) c.in_ok-push.ensures.items c.loop-i.invariant

pub read_later-triples_left-most-requires : goal.read_later-triples_left-most-requires
read_later-triples_left-most-requires t c = omega (arith, element_wide c.args.repeated (field_of c.args.node.now) c.requires.solid, c.requires.room)

pub read_present-returns-in_err-cells-in-List-clause-cell : goal.read_present-returns-in_err-cells-in-List-clause-cell
read_present-returns-in_err-cells-in-List-clause-cell t c =
    let p = err_from_is_err_and c.from_residual-in_err-cells-in-List.result c.from_residual-in_err-cells-in-List.ensures.1 in
    rw (p.1, p.2, c.in-List.is, at_List c.in-List.node) (list_failed c.in_err-cells-in-List.field-0.0 _ (rw c.deref-in-List.ensures at c.in_err-cells-in-List.ensures.cells))

pub read_present-returns-in_ok-cells-in-List-clause-cell : goal.read_present-returns-in_ok-cells-in-List-clause-cell
read_present-returns-in_ok-cells-in-List-clause-cell t c =
    rw (c.in-List.is, at_List c.in-List.node, datum_of-List c.in_ok-cells-in-List.cells)
    (ap (option_map (λ p. (list p.0, p.1))) (rw c.deref-in-List.ensures at c.in_ok-cells-in-List.ensures.cells))

pub read_present-returns-in_err-cells-in-Map-clause-cell : goal.read_present-returns-in_err-cells-in-Map-clause-cell
read_present-returns-in_err-cells-in-Map-clause-cell t c =
    let p = err_from_is_err_and c.from_residual-in_err-cells-in-Map.result c.from_residual-in_err-cells-in-Map.ensures.1 in
    rw (p.1, p.2, c.in-Map.is, at_Map c.in-Map.node) (list_failed c.in_err-cells-in-Map.field-0.0 _ (rw c.deref-in-Map.ensures at c.in_err-cells-in-Map.ensures.cells))

pub read_present-returns-in_ok-cells-in-Map-clause-cell : goal.read_present-returns-in_ok-cells-in-Map-clause-cell
read_present-returns-in_ok-cells-in-Map-clause-cell t c =
    rw (c.in-Map.is, at_Map c.in-Map.node, datum_of-List c.in_ok-cells-in-Map.cells)
    (ap (option_map (λ p. (list p.0, p.1))) (rw c.deref-in-Map.ensures at c.in_ok-cells-in-Map.ensures.cells))
