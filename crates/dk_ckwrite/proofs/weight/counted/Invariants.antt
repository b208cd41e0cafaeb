use Rattle.std.proofs.Common.{◌≡◌, ◌+◌, drop}
use Rattle.dk_pqmodel.specs.RowView.{rows_of}
use Rattle.dk_pqmodel.specs.Weight.{weight}
use Rattle.dk_ckwrite.proofs.weight.counted.Given as goal

abbrev pub invariant-loop-row : goal.invariant-loop-row
invariant-loop-row l = l.total + weight (rows_of (drop l.row-index l.rows)) ≡ weight (rows_of l.rows)
