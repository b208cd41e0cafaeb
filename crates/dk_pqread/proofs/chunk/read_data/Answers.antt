use Rattle.std.proofs.Common.{◌<◌, ◌-◌, arith}
use Rattle.std.proofs.lemmas.List.Elements.{All-from_get_or}
use Rattle.std.proofs.lemmas.Result.{err_from_is_err_and}
use Rattle.dk_pages.specs.Pages.{page_of}
use Rattle.dk_pqmodel.specs.ColumnView.{column_of}
use Rattle.dk_pqread.specs.ColumnView.{column_at}
use Rattle.dk_pqread.proofs.ChunkPages.{page_goes_on, ended, no_page, too_many, page_refused, page_more}
use Rattle.dk_pqread.proofs.PageReading.{dictionary_of}
use Rattle.dk_pqread.proofs.chunk.read_data.Goals as goal

pub returns-in-Err : goal.returns-in-Err
returns-in-Err c =
    no_page c.args.before.now (column_at c.args.column.now) (dictionary_of c.args.dictionary) c.args.start c.args.count c.loop-wanted.place c.loop-wanted.wanted (column_of c.loop-wanted.triples)
    c.loop-wanted.invariant c.loop-wanted-test.true c.in-Err.ensures.exact.1

pub returns-then-values-wanted : goal.returns-then-values-wanted
returns-then-values-wanted c =
    too_many c.args.before.now (column_at c.args.column.now) (dictionary_of c.args.dictionary) c.args.start c.args.count c.loop-wanted.place c.loop-wanted.wanted (column_of c.loop-wanted.triples)
    c.loop-wanted.invariant c.loop-wanted-test.true (page_of c.in-Ok.page) c.in-Ok.ensures.exact (omega (arith, c.if-values-wanted.true, c.from-values.ensures))

pub returns-in_err-add_page : goal.returns-in_err-add_page
returns-in_err-add_page c =
    let p = err_from_is_err_and c.from_residual.result c.from_residual.ensures.1 in
    rw (p.1, p.2)
    (page_refused c.args.before.now (column_at c.args.column.now) (dictionary_of c.args.dictionary) c.args.start c.args.count c.loop-wanted.place c.loop-wanted.wanted (column_of c.loop-wanted.triples)
    c.loop-wanted.invariant c.loop-wanted-test.true (page_of c.in-Ok.page) c.in-Ok.ensures.exact c.in_err-add_page.field-0.0 c.in_err-add_page.ensures)

pub loop-wanted-smaller : goal.loop-wanted-smaller
loop-wanted-smaller c =
    let on = page_goes_on c.args.before.now c.loop-wanted.place (page_of c.in-Ok.page) c.in-Ok.ensures.spelled in
    omega (arith, on.0, on.1)

pub loop-wanted-preserved : goal.loop-wanted-preserved
loop-wanted-preserved c =
    page_more c.args.before.now (column_at c.args.column.now) (dictionary_of c.args.dictionary) c.args.start c.args.count c.loop-wanted.place c.loop-wanted.wanted (column_of c.loop-wanted.triples)
    c.loop-wanted.invariant c.loop-wanted-test.true (page_of c.in-Ok.page) c.in-Ok.ensures.exact
    (All-from_get_or (λ byte. byte < 256) c.args.before.now 0 (λ i h. omega (arith, c.type_inv.before i))) (c.loop-wanted.wanted - c.from-values.result) (column_of c.add_page.new.triples)
    (omega (arith, c.if-values-wanted.false, c.from-values.ensures)) (omega (arith, c.from-values.ensures)) c.in_ok-add_page.ensures

pub returns : goal.returns
returns c =
    ended c.args.before.now (column_at c.args.column.now) (dictionary_of c.args.dictionary) c.args.start c.args.count c.loop-wanted.place c.loop-wanted.wanted (column_of c.loop-wanted.triples)
    c.loop-wanted.invariant (omega (arith, c.loop-wanted-test.false))
