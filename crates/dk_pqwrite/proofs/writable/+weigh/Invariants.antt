use Rattle.std.proofs.Common.{◌≡◌, ◌+◌, drop}
use Rattle.dk_pqmodel.specs.RowView.{cells_of}
use Rattle.dk_pqmodel.specs.Weight.{weight_of}
use Rattle.dk_pqwrite.proofs.writable.+weigh.Given as goal

abbrev pub invariant-left_behind_all-loop-cell : goal.invariant-left_behind_all-loop-cell
invariant-left_behind_all-loop-cell l = l.left + weight_of (cells_of l.cells) ≡ l.budget + weight_of (cells_of (drop l.cell-index l.cells))
