use Rattle.std.proofs.Common.{sym}
use Rattle.std.proofs.lemmas.Result.{err_from_is_err_and}
use Rattle.dk_pqmeta.specs.View.{chunk_view, group_view}
use Rattle.dk_pqread.specs.ColumnView.{column_at}
use Rattle.dk_pqread.proofs.Starting.{lacks_chunk, begins_refused, other_number}
use Rattle.dk_pqread.proofs.starts.column_begins.Goals as goal

pub returns-in_default : goal.returns-in_default
returns-in_default c = lacks_chunk c.args.before.now (group_view c.args.group.now) c.requires (column_at c.args.column.now) (sym c.in_default.ensures)

pub returns-in_err-begun : goal.returns-in_err-begun
returns-in_err-begun c =
    let p = err_from_is_err_and c.from_residual.result c.from_residual.ensures.1 in
    rw (p.1, p.2)
    (begins_refused c.args.before.now (group_view c.args.group.now) c.requires (column_at c.args.column.now) (chunk_view c.in-Some.chunk.now) (sym c.in-Some.ensures) c.in_err-begun.field-0.0 c.in_err-begun.ensures)

pub returns-else-begun-group : goal.returns-else-begun-group
returns-else-begun-group c =
    other_number c.args.before.now (group_view c.args.group.now) c.requires (column_at c.args.column.now) (chunk_view c.in-Some.chunk.now) (sym c.in-Some.ensures) c.in_ok-begun.begun c.in_ok-begun.ensures c.if-begun-group.false
