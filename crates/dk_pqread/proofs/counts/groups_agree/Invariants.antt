use Rattle.std.proofs.Common.{◌≡◌, drop, map}
use Rattle.dk_pqmeta.specs.View.{group_view}
use Rattle.dk_pqread.specs.ColumnView.{column_at}
use Rattle.dk_pqread.specs.Counts.{groups_agree}
use Rattle.dk_pqread.proofs.counts.groups_agree.Given as goal

abbrev pub invariant-loop-group : goal.invariant-loop-group
invariant-loop-group l = groups_agree (map column_at l.columns) (map group_view (drop l.group-index l.groups)) ≡ groups_agree (map column_at l.columns) (map group_view l.groups)
