use Rattle.std.proofs.lemmas.Result.{err_from_is_err_and}
use Rattle.dk_pqmeta.specs.View.{group_view}
use Rattle.dk_pqread.proofs.Starting.{column_refused}
use Rattle.dk_pqread.proofs.starts.group_begins.Goals as goal

pub returns-in_err-column_begins : goal.returns-in_err-column_begins
returns-in_err-column_begins c =
    let p = err_from_is_err_and c.from_residual.result c.from_residual.ensures.1 in
    rw (p.1, p.2)
    (column_refused c.args.before.now (group_view c.args.group.now) c.args.columns.now c.loop-column.column-index c.column-item.result c.in_err-column_begins.field-0.0 c.loop-column-test.true c.column-item.is
    c.in_err-column_begins.ensures)
