use Rattle.std.proofs.Common.{◌-◌, length}
use Rattle.dk_pqread.specs.ColumnView.{column_at}
use Rattle.dk_pqread.proofs.Starting.{StartsOn}
use Rattle.dk_pqread.proofs.starts.pages_begin.Given as goal

abbrev pub invariant-loop-wanted : goal.invariant-loop-wanted
invariant-loop-wanted l = StartsOn l.before (column_at l.column) l.start l.count l.place l.wanted l.begun

abbrev pub decreases-loop-wanted : goal.decreases-loop-wanted
decreases-loop-wanted l = length l.before - l.place
