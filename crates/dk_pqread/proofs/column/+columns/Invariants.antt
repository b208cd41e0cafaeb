use Rattle.std.proofs.Common.{drop, map}
use Rattle.std.proofs.Common.{◌++◌}
use Rattle.dk_pqmodel.specs.FileMeans.{columns_of}
use Rattle.dk_pqread.specs.ColumnView.{column_at}
use Rattle.dk_pqread.specs.PlanView.{plans_of}
use Rattle.dk_pqread.proofs.Columns.{LeftToAdd}
use Rattle.dk_pqread.proofs.column.+columns.Given as goal

abbrev pub invariant-add_columns-loop-plan : goal.invariant-add_columns-loop-plan
invariant-add_columns-loop-plan l =
    LeftToAdd (plans_of (drop l.plan-index l.plans)) l.rep l.def (map column_at l.columns.items) (map column_at l.initial.columns.items ++ columns_of (plans_of l.plans) l.rep l.def)
