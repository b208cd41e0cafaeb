use Rattle.std.proofs.Common.{◌≡◌, drop, map}
use Rattle.dk_pqmeta.specs.View.{group_view}
use Rattle.dk_pqread.specs.ColumnView.{column_at}
use Rattle.dk_pqmodel.specs.Scans.{first_compressed}
use Rattle.dk_pqread.proofs.scan.first_compressed.Given as goal

abbrev pub invariant-loop-column : goal.invariant-loop-column
invariant-loop-column l = first_compressed (map column_at (drop l.column-index l.columns)) (map group_view l.groups) ≡ first_compressed (map column_at l.columns) (map group_view l.groups)
