use Rattle.std.proofs.Common.{◌+◌, drop, sym, ap, ◌∙◌, arith}
use Rattle.std.specs.Option.{option_or}
use Rattle.dk_model.specs.Fields.{field}
use Rattle.dk_pqmodel.specs.NodeView.{fields_of}
use Rattle.dk_pqmodel.specs.RowView.{cells_of}
use Rattle.dk_rowmap.specs.Parts.{group_data}
use Rattle.dk_rowmap.proofs.RowSteps.{find_turn}
use Rattle.dk_rowmap.proofs.part.find.Goals as goal

pub returns-in-Some : goal.returns-in-Some
returns-in-Some c =
    let q = c.args.key.now in
    let d = c.args.depth in
    let ns = c.args.nodes.now in
    let cs = c.args.cells.now in
    let i = c.cells.i in
    let rest = field q (group_data d (fields_of (drop (i + 1) ns)) (cells_of (drop (i + 1) cs))) in
    sym (c.cells.invariant
    ∙ find_turn q d ns cs i c.index-nodes-i.result c.index-cells-i.result
    (omega (arith, c.cells-test.true, c.count_of-count.ensures.nodes)) (omega (arith, c.cells-test.true, c.count_of-count.ensures.cells)) c.index-nodes-i.is c.index-cells-i.is
    ∙ ap (λ o. option_or o rest) (sym c.in-Some.ensures))

pub cells-preserved : goal.cells-preserved
cells-preserved c =
    let q = c.args.key.now in
    let d = c.args.depth in
    let ns = c.args.nodes.now in
    let cs = c.args.cells.now in
    let i = c.cells.i in
    let rest = field q (group_data d (fields_of (drop (i + 1) ns)) (cells_of (drop (i + 1) cs))) in
    c.cells.invariant
    ∙ find_turn q d ns cs i c.index-nodes-i.result c.index-cells-i.result
    (omega (arith, c.cells-test.true, c.count_of-count.ensures.nodes)) (omega (arith, c.cells-test.true, c.count_of-count.ensures.cells)) c.index-nodes-i.is c.index-cells-i.is
    ∙ ap (λ o. option_or o rest) (sym c.in_default.ensures)
