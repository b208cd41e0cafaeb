use Rattle.std.proofs.Common.{◌≡◌, drop, map}
use Rattle.dk_pqmeta.specs.View.{group_view}
use Rattle.dk_pqread.specs.ColumnView.{column_at}
use Rattle.dk_pqmodel.specs.Scans.{first_unread}
use Rattle.dk_pqread.proofs.scan.first_unread.Given as goal

abbrev pub invariant-loop-column : goal.invariant-loop-column
invariant-loop-column l = first_unread l.before (map column_at (drop l.column-index l.columns)) (map group_view l.groups) ≡ first_unread l.before (map column_at l.columns) (map group_view l.groups)
