use Rattle.std.proofs.lemmas.Result.{err_from_is_err_and}
use Rattle.dk_pqmeta.specs.View.{group_view}
use Rattle.dk_pqmodel.specs.RowView.{rows_of}
use Rattle.dk_pqread.specs.PlanView.{plans_of}
use Rattle.dk_pqread.proofs.Shares.{own_added, own_refused}
use Rattle.dk_pqread.proofs.rows.add_group.Goals as goal

pub returns-in_err-own : goal.returns-in_err-own
returns-in_err-own c =
    let p = err_from_is_err_and c.from_residual.result c.from_residual.ensures.1 in
    rw (p.1, p.2)
    (own_refused c.args.before.now (plans_of c.args.plans.now) (group_view c.args.group.now) c.requires.distinct c.requires.readable (rows_of c.args.rows.now.items) c.in_err-own.field-0.0
    c.in_err-own.ensures)

pub returns : goal.returns
returns c =
    own_added c.args.before.now (plans_of c.args.plans.now) (group_view c.args.group.now) c.requires.distinct c.requires.readable _ c.add_widened.result (rows_of c.args.rows.now.items)
    (rows_of c.in_ok-own.own.items) c.in_ok-own.ensures c.add_widened.ensures
