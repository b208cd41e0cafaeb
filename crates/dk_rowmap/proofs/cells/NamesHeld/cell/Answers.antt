use Rattle.std.proofs.Common.{◌≡◌, rules, ap, ◌∙◌}
use Rattle.dk_pqmodel.specs.Datum.{list}
use Rattle.dk_pqmodel.specs.RowView.{datum_of, cells_of, cells_of_list}
use Rattle.dk_pqmodel.specs.declared.row.Cell.{the_lemmas}
use Rattle.dk_pqmodel.specs.declared.row.Cell as row
use Rattle.dk_rowmap.specs.ActionRows.{names_cell}
use Rattle.dk_rowmap.proofs.HeldFields.{names_are_held}
use Rattle.dk_rowmap.proofs.cells.NamesHeld.cell.Goals as goal

pub returns : goal.returns
returns c =
    let cells = c.in_ok-text_cells.field-0 in
    let same : datum_of (row.List cells) ≡ list (cells_of cells.items) = search (rules, the_lemmas) in
    same ∙ ap (λ cs. list (cells_of_list cs)) c.in_ok-text_cells.ensures ∙ ap names_cell c.as_slice.ensures ∙ names_are_held c.args.self.now
