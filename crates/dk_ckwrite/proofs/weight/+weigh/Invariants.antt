use Rattle.std.proofs.Common.{◌≡◌, ◌+◌, drop}
use Rattle.dk_pqmodel.specs.RowView.{cells_of}
use Rattle.dk_pqmodel.specs.Weight.{weight_of}
use Rattle.dk_ckwrite.proofs.weight.+weigh.Given as goal

abbrev pub invariant-weight_of_all-loop-cell : goal.invariant-weight_of_all-loop-cell
invariant-weight_of_all-loop-cell l = l.total + weight_of (cells_of (drop l.cell-index l.cells)) ≡ weight_of (cells_of l.cells)
