use Rattle.std.proofs.Common.{rules, ◌≡◌, ◌∷◌, true, false, Some, is_some, map, sym, ap, ◌∙◌}
use Rattle.std.proofs.lemmas.List.{map-append}
use Rattle.std.specs.Vec.Iter.{into_iter_items}
use Rattle.indexmap.proofs.CallerLemmas.{insert_entry-new}
use Rattle.dk_pqmodel.specs.Footer.{chunk_of, has_path}
use Rattle.dk_pqmeta.specs.Kept.{chunk_kept}
use Rattle.dk_pqmeta.specs.View.{column_view}
use Rattle.dk_pqmeta.proofs.Behind.{columns_go_on, columns_refused, none_is, path_found, same_key}
use Rattle.dk_pqmeta.proofs.group.columns_by_path.Goals as goal

pub returns-then-is_some : goal.returns-then-is_some
returns-then-is_some c =
    let path = c.in-Some-into_column.path in
    let x = column_view (path, c.in-Some-into_column.chunk) in
    let done = map column_view c.loop-chunk.columns.entries in
    let items : into_iter_items c.loop-chunk.chunk-iterator ≡ c.in-Some.chunk ∷ into_iter_items c.next.new.self = search rules in
    let e : chunk_of (chunk_kept c.in-Some.chunk) ≡ Some x = sym c.in-Some-into_column.ensures in
    let there : has_path (x.0) done ≡ true = sym (path_found path c.loop-chunk.columns.entries) ∙ ap is_some (sym c.in_ok-insert.ensures.old) ∙ sym c.is_some.ensures ∙ c.if-is_some.true in
    columns_refused done (chunk_kept c.in-Some.chunk) (map chunk_kept (into_iter_items c.next.new.self)) x _ e (rw items at c.loop-chunk.invariant) there

pub loop-chunk-preserved : goal.loop-chunk-preserved
loop-chunk-preserved c =
    let path = c.in-Some-into_column.path in
    let x = column_view (path, c.in-Some-into_column.chunk) in
    let done = map column_view c.loop-chunk.columns.entries in
    let items : into_iter_items c.loop-chunk.chunk-iterator ≡ c.in-Some.chunk ∷ into_iter_items c.next.new.self = search rules in
    let e : chunk_of (chunk_kept c.in-Some.chunk) ≡ Some x = sym c.in-Some-into_column.ensures in
    let none : is_some c.in_ok-insert.field-0 ≡ false = sym c.is_some.ensures ∙ c.if-is_some.false in
    let new : has_path (x.0) done ≡ false = sym (path_found path c.loop-chunk.columns.entries) ∙ ap is_some (sym c.in_ok-insert.ensures.old) ∙ none in
    let last = c.in_ok-insert.ensures.entries ∙ insert_entry-new same_key c.loop-chunk.columns path c.in-Some-into_column.chunk (sym c.in_ok-insert.ensures.old ∙ none_is c.in_ok-insert.field-0 none) in
    rw (last, map-append) (columns_go_on done (chunk_kept c.in-Some.chunk) (map chunk_kept (into_iter_items c.next.new.self)) x _ e (rw items at c.loop-chunk.invariant) new)
