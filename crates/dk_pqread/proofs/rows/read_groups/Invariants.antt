use Rattle.std.proofs.Common.{map, take}
use Rattle.dk_pqmeta.specs.View.{group_view}
use Rattle.dk_pqmodel.specs.RowView.{rows_of}
use Rattle.dk_pqread.specs.PlanView.{plans_of}
use Rattle.dk_pqread.specs.RowsMeaning.{GroupsMean}
use Rattle.dk_pqread.proofs.rows.read_groups.Given as goal

abbrev pub invariant-loop-group : goal.invariant-loop-group
invariant-loop-group l = GroupsMean l.before (plans_of l.plans) (map group_view (take l.group-index l.groups)) (rows_of l.rows.items)
