use Rattle.std.proofs.Common.{◌≡◌, drop, map}
use Rattle.dk_pqmeta.specs.View.{group_view}
use Rattle.dk_pqread.specs.Counts.{have_rows}
use Rattle.dk_pqread.proofs.counts.have_rows.Given as goal

abbrev pub invariant-loop-group : goal.invariant-loop-group
invariant-loop-group l = have_rows l.left (map group_view (drop l.group-index l.groups)) ≡ have_rows l.rows (map group_view l.groups)
