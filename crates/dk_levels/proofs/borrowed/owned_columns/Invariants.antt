use Rattle.std.proofs.Common.{◌≡◌, take}
use Rattle.dk_pqmodel.specs.ColumnView.{columns_of as owned_columns_of}
use Rattle.dk_levels.specs.Borrowed.{borrowed_columns}
use Rattle.dk_levels.proofs.borrowed.owned_columns.Given as goal

abbrev pub invariant-loop-column : goal.invariant-loop-column
invariant-loop-column l = owned_columns_of l.leaves.items ≡ borrowed_columns (take l.column-index l.columns)
