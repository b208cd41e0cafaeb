use Rattle.std.proofs.Common.{◌≡◌, take}
use Rattle.dk_pqmodel.specs.ColumnView.{columns_of}
use Rattle.dk_pqmodel.proofs.columns.Columns.copy.Given as goal

abbrev pub invariant-loop-column : goal.invariant-loop-column
invariant-loop-column l = columns_of l.leaves.items ≡ columns_of (take l.column-index l.column-items)
