use Rattle.std.proofs.Common.{map}
use Rattle.std.proofs.lemmas.Result.{err_from_is_err_and}
use Rattle.dk_pqread.specs.ColumnView.{column_at}
use Rattle.dk_pqread.proofs.Starting.{begin_refused}
use Rattle.dk_pqread.proofs.starts.rows_begin.Goals as goal

pub returns-in_err-group_begins : goal.returns-in_err-group_begins
returns-in_err-group_begins c =
    let p = err_from_is_err_and c.from_residual.result c.from_residual.ensures.1 in
    rw (p.1, p.2)
    (begin_refused c.args.before.now (map column_at c.args.columns.now) c.args.groups.now c.loop-group.group-index c.group-item.result c.in_err-group_begins.field-0.0 c.loop-group-test.true c.group-item.is
    c.in_err-group_begins.ensures)
