use Rattle.std.proofs.Common.{◌≡◌, ◌∙◌, None, Some, pos, rules, map, sym, ap, subst, to_z, w32, arith}
use Rattle.std.proofs.lemmas.Int.{to_z-of_z}
use Rattle.std.proofs.lemmas.Result.{err_from_is_err_and}
use Rattle.dk_pqmodel.specs.Pages.{page_at}
use Rattle.dk_pages.specs.Pages.{page_of}
use Rattle.dk_pqmeta.specs.View.{chunk_view}
use Rattle.dk_pqmodel.specs.ColumnView.{column_of, value_of}
use Rattle.dk_pqread.specs.ChunkMeaning.{EntriesHold, DataFrom}
use Rattle.dk_pqread.specs.ColumnView.{column_at}
use Rattle.dk_pqread.specs.LeafView.{leaf_of}
use Rattle.dk_pqread.specs.Meanings.{Finds}
use Rattle.dk_pqread.proofs.ChunkPages.{nothing_wanted, beyond, no_first_page, data_chunk, dictionary_refused, dictionary_chunk}
use Rattle.dk_pqread.proofs.chunk.read_chunk.Goals as goal

pub returns-then-chunk-eq0 : goal.returns-then-chunk-eq0
returns-then-chunk-eq0 c =
    rw c.new.ensures.items
    (nothing_wanted c.args.before.now (column_at c.args.column.now) (chunk_view c.args.chunk.now) (search rules) (search rules) c.if-chunk-eq0.true)

pub returns-then-place-before : goal.returns-then-place-before
returns-then-place-before c =
    beyond c.args.before.now (column_at c.args.column.now) (chunk_view c.args.chunk.now) (omega (arith, c.if-chunk-eq0.false)) (omega (arith, c.if-place-before.true, c.first_place-place.ensures))

pub returns-in-Err : goal.returns-in-Err
returns-in-Err c =
    let none = subst (λ n. page_at c.args.before.now n ≡ None) c.first_place-place.ensures c.in-Err.ensures.exact.1 in
    no_first_page c.args.before.now (column_at c.args.column.now) (chunk_view c.args.chunk.now) (omega (arith, c.if-chunk-eq0.false)) none

pub returns-then-not-is_dictionary : goal.returns-then-not-is_dictionary
returns-then-not-is_dictionary c =
    let found = subst (λ n. page_at c.args.before.now n ≡ Some (page_of c.in-Ok.first)) c.first_place-place.ensures c.in-Ok.ensures.exact in
    let plain : c.args.chunk.now.codec ≡ pos 0 = sym (to_z-of_z w32 c.args.chunk.now.codec (search rules)) ∙ ap (to_z w32) c.if-chunk-ne0.false in
    let typed : c.args.chunk.now.physical ≡ c.physical_type.result =
    sym (to_z-of_z w32 c.args.chunk.now.physical (search rules)) ∙ ap (to_z w32) c.if-chunk-physical_type.false ∙ to_z-of_z w32 c.physical_type.result (search rules) in
    let read = subst (λ n. Finds column_of c.read_data.result (DataFrom c.args.before.now (column_at c.args.column.now) None n c.args.chunk.now.values)) c.first_place-place.ensures c.read_data.ensures in
    data_chunk c.args.before.now (column_at c.args.column.now) (chunk_view c.args.chunk.now) (omega (arith, c.if-chunk-eq0.false)) (page_of c.in-Ok.first) found plain (typed ∙ c.physical_type.ensures) column_of
    c.read_data.result (search rules) read

pub returns-in_err-entries : goal.returns-in_err-entries
returns-in_err-entries c =
    let p = err_from_is_err_and c.from_residual.result c.from_residual.ensures.1 in
    let found = subst (λ n. page_at c.args.before.now n ≡ Some (page_of c.in-Ok.first)) c.first_place-place.ensures c.in-Ok.ensures.exact in
    rw (p.1, p.2)
    (dictionary_refused c.args.before.now (column_at c.args.column.now) (chunk_view c.args.chunk.now) (omega (arith, c.if-chunk-eq0.false)) (page_of c.in-Ok.first) found c.in_err-entries.field-0.0
    (search rules) c.in_err-entries.ensures)

pub returns : goal.returns
returns c =
    let found = subst (λ n. page_at c.args.before.now n ≡ Some (page_of c.in-Ok.first)) c.first_place-place.ensures c.in-Ok.ensures.exact in
    let held = subst (λ vs. EntriesHold (leaf_of c.args.column.now.kind) (page_of c.in-Ok.first) (map value_of vs)) (sym c.as_slice.ensures.value) c.in_ok-entries.ensures in
    dictionary_chunk c.args.before.now (column_at c.args.column.now) (chunk_view c.args.chunk.now) (omega (arith, c.if-chunk-eq0.false)) (page_of c.in-Ok.first) found (search rules) (search rules) column_of
    c.read_data-2.result (map value_of c.as_slice.result.now) (search rules) held c.read_data-2.ensures
