use Rattle.std.proofs.lemmas.Result.{err_from_is_err_and}
use Rattle.dk_pqmodel.specs.RowView.{rows_of}
use Rattle.dk_pqread.specs.PlanView.{plans_of}
use Rattle.dk_pqread.proofs.Gathering.{group_refused, groups_more}
use Rattle.dk_pqread.proofs.rows.read_groups.Goals as goal

pub returns-in_err-add_group : goal.returns-in_err-add_group
returns-in_err-add_group c =
    let p = err_from_is_err_and c.from_residual-in_err-add_group.result c.from_residual-in_err-add_group.ensures.1 in
    rw (p.1, p.2)
    (group_refused c.args.before.now (plans_of c.args.plans.now) c.args.groups.now c.loop-group.group-index c.group-item.result (rows_of c.loop-group.rows.items) c.in_err-add_group.field-0.0
    c.loop-group-test.true c.group-item.is c.in_err-add_group.ensures)

pub loop-group-preserved : goal.loop-group-preserved
loop-group-preserved c =
    groups_more c.args.before.now (plans_of c.args.plans.now) c.args.groups.now c.loop-group.group-index c.group-item.result (rows_of c.loop-group.rows.items) (rows_of c.add_group.new.rows.items)
    c.loop-group-test.true c.group-item.is c.loop-group.invariant c.in_ok-add_group.ensures
