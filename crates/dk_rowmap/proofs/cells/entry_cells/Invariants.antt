use Rattle.std.proofs.Common.{◌≡◌, map, take}
use Rattle.dk_pqmodel.specs.RowView.{datum_of}
use Rattle.dk_rowmap.specs.ActionRows.{entry_cell}
use Rattle.dk_rowmap.proofs.cells.entry_cells.Given as goal

abbrev pub invariant-pairs : goal.invariant-pairs
invariant-pairs l = map datum_of l.cells.items ≡ map entry_cell (take l.pair-index l.pairs)
