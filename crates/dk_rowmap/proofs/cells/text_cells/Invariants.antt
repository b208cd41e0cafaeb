use Rattle.std.proofs.Common.{◌≡◌, map, take}
use Rattle.dk_pqmodel.specs.RowView.{datum_of}
use Rattle.dk_rowmap.specs.ActionRows.{text_cell}
use Rattle.dk_rowmap.proofs.cells.text_cells.Given as goal

abbrev pub invariant-texts : goal.invariant-texts
invariant-texts l = map datum_of l.cells.items ≡ map text_cell (take l.text-index l.texts)
