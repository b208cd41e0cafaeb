use Rattle.std.proofs.Common.{◌≡◌, Some, rules, sym, ap, ◌∙◌}
use Rattle.dk_pqmodel.specs.Datum.{list}
use Rattle.dk_pqmodel.specs.NodeView.{field_of}
use Rattle.dk_pqmodel.specs.Object.{json_in}
use Rattle.dk_pqmodel.specs.RowView.{datum_of, cells_of}
use Rattle.dk_model.specs.Fields.{present}
use Rattle.dk_pqmodel.specs.declared.row.Cell.{the_lemmas}
use Rattle.dk_rowmap.specs.Parts.{turned}
use Rattle.dk_rowmap.proofs.RowSteps.{part_list}
use Rattle.dk_rowmap.proofs.part.part_of.Goals as goal

pub returns-in-List : goal.returns-in-List
returns-in-List c =
    let f = field_of c.args.node.now in
    let cells = cells_of c.deref-in-List.result.now in
    let same : datum_of c.args.cell.now ≡ list cells = search (rules, the_lemmas) in
    part_list c.args.depth c.args.node.now cells _ c.list_of.ensures ∙ ap (λ x. present (Some (json_in (turned c.args.depth f x) f))) (sym same)
