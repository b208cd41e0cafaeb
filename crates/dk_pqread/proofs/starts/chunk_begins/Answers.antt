use Rattle.std.proofs.Common.{arith, sym, subst, ◌∙◌, ◌≡◌}
use Rattle.dk_pages.specs.Pages.{page_of}
use Rattle.dk_pqmeta.specs.View.{chunk_view}
use Rattle.dk_pqread.specs.ColumnView.{column_at}
use Rattle.dk_pqread.specs.Meanings.{Tells}
use Rattle.dk_pqread.specs.Starts.{OnPages, starts}
use Rattle.dk_pqmodel.specs.Pages.{page_at}
use Rattle.std.proofs.Common.{Some, None}
use Rattle.dk_pqread.proofs.ChunkPages.{no_first_page}
use Rattle.dk_pqread.proofs.Starting.{behind_entries, without_entries}
use Rattle.dk_pqread.proofs.starts.chunk_begins.Goals as goal

pub returns-in-Err : goal.returns-in-Err
returns-in-Err c =
    no_first_page c.args.before.now (column_at c.args.column.now) (chunk_view c.args.chunk.now) (omega (arith, c.if-chunk-eq0.false))
    (subst (λ n. page_at c.args.before.now n ≡ None) c.first_place-place.ensures c.in-Err.ensures.exact.1)

pub returns-then-is_dictionary : goal.returns-then-is_dictionary
returns-then-is_dictionary c =
    behind_entries c.args.before.now (column_at c.args.column.now) (chunk_view c.args.chunk.now) (omega (arith, c.if-chunk-eq0.false)) (page_of c.in-Ok.first)
    (subst (λ n. page_at c.args.before.now n ≡ Some (page_of c.in-Ok.first)) c.first_place-place.ensures c.in-Ok.ensures.exact)
    (sym c.is_dictionary.ensures ∙ c.if-is_dictionary.true) c.pages_begin.result c.pages_begin.ensures

pub returns : goal.returns
returns c =
    without_entries c.args.before.now (column_at c.args.column.now) (chunk_view c.args.chunk.now) (omega (arith, c.if-chunk-eq0.false)) (page_of c.in-Ok.first)
    (subst (λ n. page_at c.args.before.now n ≡ Some (page_of c.in-Ok.first)) c.first_place-place.ensures c.in-Ok.ensures.exact)
    (sym c.is_dictionary.ensures ∙ c.if-is_dictionary.false) c.pages_begin-2.result
    (subst (λ n. Tells starts c.pages_begin-2.result (OnPages c.args.before.now (column_at c.args.column.now) n (chunk_view c.args.chunk.now).values)) c.first_place-place.ensures c.pages_begin-2.ensures)
