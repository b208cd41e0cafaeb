use Rattle.std.proofs.Common.{◌≡◌, drop, map}
use Rattle.dk_pqmeta.specs.View.{group_view}
use Rattle.dk_pqread.specs.ColumnView.{column_at}
use Rattle.dk_pqread.specs.Counts.{group_agrees}
use Rattle.dk_pqread.proofs.counts.group_agrees.Given as goal

abbrev pub invariant-loop-column : goal.invariant-loop-column
invariant-loop-column l = group_agrees (group_view l.group) (map column_at (drop l.column-index l.columns)) ≡ group_agrees (group_view l.group) (map column_at l.columns)
