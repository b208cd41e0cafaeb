use Rattle.std.proofs.Common.{◌≡◌, drop, map}
use Rattle.dk_pqmeta.specs.View.{group_view}
use Rattle.dk_pqread.specs.ColumnView.{column_at}
use Rattle.dk_pqmodel.specs.Scans.{code_in}
use Rattle.dk_pqread.proofs.scan.code_in.Given as goal

abbrev pub invariant-loop-group : goal.invariant-loop-group
invariant-loop-group l = code_in l.before (column_at l.column) (map group_view (drop l.group-index l.groups)) ≡ code_in l.before (column_at l.column) (map group_view l.groups)
