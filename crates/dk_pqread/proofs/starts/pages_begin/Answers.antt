use Rattle.std.proofs.Common.{◌-◌, arith}
use Rattle.std.proofs.lemmas.Result.{err_from_is_err_and}
use Rattle.dk_pages.specs.Pages.{page_of}
use Rattle.dk_pqread.specs.ColumnView.{column_at}
use Rattle.dk_pqread.proofs.ChunkPages.{page_goes_on}
use Rattle.dk_pqread.proofs.Starting.{starts_end, no_next, more_than, next_refused, starts_next}
use Rattle.dk_pqread.proofs.starts.pages_begin.Goals as goal

pub returns-in-Err : goal.returns-in-Err
returns-in-Err c = no_next c.args.before.now (column_at c.args.column.now) c.args.start c.args.count c.loop-wanted.place c.loop-wanted.wanted c.loop-wanted.begun c.loop-wanted.invariant (omega (arith, c.loop-wanted-test.true)) c.in-Err.ensures.exact.1

pub returns-then-values-wanted : goal.returns-then-values-wanted
returns-then-values-wanted c =
    more_than c.args.before.now (column_at c.args.column.now) c.args.start c.args.count c.loop-wanted.place c.loop-wanted.wanted c.loop-wanted.begun c.loop-wanted.invariant (omega (arith, c.loop-wanted-test.true)) (page_of c.in-Ok.page) c.in-Ok.ensures.exact
    (omega (arith, c.if-values-wanted.true, c.from-values.ensures))

pub returns-in_err-begun : goal.returns-in_err-begun
returns-in_err-begun c =
    let p = err_from_is_err_and c.from_residual.result c.from_residual.ensures.1 in
    rw (p.1, p.2)
    (next_refused c.args.before.now (column_at c.args.column.now) c.args.start c.args.count c.loop-wanted.place c.loop-wanted.wanted c.loop-wanted.begun c.loop-wanted.invariant (omega (arith, c.loop-wanted-test.true)) (page_of c.in-Ok.page) c.in-Ok.ensures.exact
    c.in_err-begun.field-0.0 c.in_err-begun.ensures.begun)

pub loop-wanted-smaller : goal.loop-wanted-smaller
loop-wanted-smaller c =
    let on = page_goes_on c.args.before.now c.loop-wanted.place (page_of c.in-Ok.page) c.in-Ok.ensures.spelled in
    omega (arith, on.0, on.1)

pub loop-wanted-preserved : goal.loop-wanted-preserved
loop-wanted-preserved c =
    starts_next c.args.before.now (column_at c.args.column.now) c.args.start c.args.count c.loop-wanted.place c.loop-wanted.wanted c.loop-wanted.begun c.loop-wanted.invariant (omega (arith, c.loop-wanted-test.true)) (page_of c.in-Ok.page) c.in-Ok.ensures.exact
    c.in_ok-begun.field-0 c.from-values.result (c.loop-wanted.wanted - c.from-values.result) (omega (arith, c.from-values.ensures)) (omega (arith, c.if-values-wanted.false)) (omega arith)
    (omega (arith, c.in_ok-begun.ensures.few)) c.in_ok-begun.ensures.begun

pub returns : goal.returns
returns c = starts_end c.args.before.now (column_at c.args.column.now) c.args.start c.args.count c.loop-wanted.place c.loop-wanted.wanted c.loop-wanted.begun c.loop-wanted.invariant (omega (arith, c.loop-wanted-test.false))
