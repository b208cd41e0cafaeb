use Rattle.std.proofs.Common.{◌-◌, arith, sym, ap, ◌∙◌}
use Rattle.std.specs.FinMap.{entries}
use Rattle.dk_actjson.proofs.Slots.{no_slots}
use Rattle.dk_rowmap.specs.Parts.{turned, slots_in}
use Rattle.dk_rowmap.proofs.RowSteps.{none_left, group_back}
use Rattle.dk_rowmap.proofs.part.group_slots.Goals as goal

pub cells-init : goal.cells-init
cells-init c = record {
  cells = c.count_of-place.ensures.cells;
  nodes = c.count_of-place.ensures.nodes;
  meant = ap entries c.new-slots.ensures ∙ no_slots
      ∙ sym (ap slots_in (none_left (turned c.args.depth) c.args.nodes.now c.args.cells.now c.count_of-place.result c.count_of-place.ensures.least));
}

pub cells-preserved : goal.cells-preserved
cells-preserved c =
    let place = c.cells.place in
    let some = c.cells-test.true in
    let was = c.cells.invariant in
    record {
      cells = omega (arith, some, was.cells);
      nodes = omega (arith, some, was.nodes);
      meant = group_back c.args.depth c.args.nodes.now c.args.cells.now (place - 1) place c.index-nodes-place.result c.index-cells-place.result _ _
          (omega (arith, some)) (omega (arith, some, was.nodes)) (omega (arith, some, was.cells)) c.index-nodes-place.is c.index-cells-place.is c.in_ok-more.ensures was.meant;
    }
