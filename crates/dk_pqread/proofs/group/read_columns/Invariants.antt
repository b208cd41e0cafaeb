use Rattle.std.proofs.Common.{map, take}
use Rattle.dk_pqmeta.specs.View.{group_view}
use Rattle.dk_pqmodel.specs.ColumnView.{columns_of}
use Rattle.dk_pqmodel.specs.FileMeans.{HasColumns}
use Rattle.dk_pqread.specs.ColumnView.{column_at}
use Rattle.dk_pqread.proofs.group.read_columns.Given as goal

abbrev pub invariant-loop-column : goal.invariant-loop-column
invariant-loop-column l = HasColumns l.before (group_view l.group) (map column_at (take l.column-index l.columns)) (columns_of l.leaves.items)
