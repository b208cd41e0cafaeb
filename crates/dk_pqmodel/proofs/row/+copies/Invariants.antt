use Rattle.std.proofs.Common.{◌≡◌, map, take}
use Rattle.dk_pqmodel.specs.RowView.{datum_of}
use Rattle.dk_pqmodel.proofs.row.+copies.Given as goal

abbrev pub invariant-copy_cells-loop-cell : goal.invariant-copy_cells-loop-cell
invariant-copy_cells-loop-cell l = map datum_of l.out.items ≡ map datum_of (take l.cell-index l.cells)
