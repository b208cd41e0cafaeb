use Rattle.std.proofs.Common.{◌≡◌, rules, ap, ◌∙◌}
use Rattle.dk_pqmodel.specs.Datum.{list}
use Rattle.dk_pqmodel.specs.RowView.{datum_of, cells_of, cells_of_list}
use Rattle.dk_pqmodel.specs.declared.row.Cell.{the_lemmas}
use Rattle.dk_pqmodel.specs.declared.row.Cell as row
use Rattle.dk_rowmap.specs.ActionRows.{pairs_cell}
use Rattle.dk_rowmap.proofs.HeldFields.{pairs_cell_is}
use Rattle.dk_rowmap.proofs.cells.PairsHeld.cell.Goals as goal

pub returns : goal.returns
returns c =
    let cells = c.in_ok-entry_cells.field-0 in
    let same : datum_of (row.List cells) ≡ list (cells_of cells.items) = search (rules, the_lemmas) in
    same ∙ ap (λ cs. list (cells_of_list cs)) c.in_ok-entry_cells.ensures ∙ ap pairs_cell c.as_slice.ensures.value ∙ pairs_cell_is c.args.self.now c.as_slice.ensures.rising
