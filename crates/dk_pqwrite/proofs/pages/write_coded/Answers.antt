use Rattle.std.proofs.Common.{◌-◌, Some, [], length, map, string_bytes, refl, sym, ap, arith}
use Rattle.std.proofs.lemmas.List.{length-map}
use Rattle.dk_levels.specs.Borrowed.{borrowed_triple}
use Rattle.dk_pqwrite.specs.declared.chunk.Chunk.{Chunk}
use Rattle.dk_pqwrite.proofs.Uses.{shown}
use Rattle.dk_pqwrite.proofs.WritingColumns.{coded_written, distinct_few, distinct_light, distinct_small, grows}
use Rattle.dk_pqwrite.proofs.pages.write_coded.Goals as goal

pub add_dictionary_page-requires-clause-few : goal.add_dictionary_page-requires-clause-few
add_dictionary_page-requires-clause-few c =
    let entries = map borrowed_triple c.args.triples.now in
    let fit = rw c.requires.kind at c.requires.writable.fit in
    omega (arith, distinct_few entries c.in_ok-dictionary.dictionary.texts.keys fit c.in_ok-dictionary.ensures.texts, c.requires.writable.few, ap length c.as_slice.ensures.keys)

pub add_dictionary_page-requires-clause-small : goal.add_dictionary_page-requires-clause-small
add_dictionary_page-requires-clause-small c =
    let entries = map borrowed_triple c.args.triples.now in
    let fit = rw c.requires.kind at c.requires.writable.fit in
    rw c.as_slice.ensures.keys (distinct_light entries c.in_ok-dictionary.dictionary.texts.keys fit c.in_ok-dictionary.ensures.texts c.requires.writable.light)

pub add_coded_page-requires-clause-distinct : goal.add_coded_page-requires-clause-distinct
add_coded_page-requires-clause-distinct c =
    let entries = map borrowed_triple c.args.triples.now in
    let fit = rw c.requires.kind at c.requires.writable.fit in
    omega (arith, distinct_few entries c.in_ok-dictionary.dictionary.texts.keys fit c.in_ok-dictionary.ensures.texts, c.requires.writable.few)

pub overflow_sub-result : goal.overflow_sub-result
overflow_sub-result c =
    let first = grows _ _ c.args.out.now c.add_dictionary_page.new.out c.in_ok-add_dictionary_page.ensures in
    let second = grows _ _ c.add_dictionary_page.new.out c.add_coded_page.new.out (c.in_ok-add_coded_page.ensures []) in
    omega (arith, first, second, c.len-dictionary_page.ensures, c.len-end.ensures)

pub returns-clause-written : goal.returns-clause-written
returns-clause-written c =
    let triples = c.args.triples.now in
    let entries = map borrowed_triple triples in
    let keys = c.in_ok-dictionary.dictionary.texts.keys in
    let fit = rw c.requires.kind at c.requires.writable.fit in
    let chunk : Chunk = record {
      path = c.args.leaf.path;
      physical = c.physical_type.result;
      values = length triples;
      size = c.len-end.result - c.len-dictionary_page.result;
      first_page = c.len-first_page.result;
      dictionary_page = Some c.len-dictionary_page.result;
    } in
    coded_written c.args.leaf.column entries (map string_bytes c.args.leaf.path.items) chunk
    (record { typed = c.physical_type.ensures.code; small = c.physical_type.ensures.small; count = sym (length-map triples borrowed_triple); few = c.requires.writable.few; names = refl })
    c.args.out.now c.add_dictionary_page.new.out c.add_coded_page.new.out (shown keys) c.requires.kind (distinct_small entries keys fit c.in_ok-dictionary.ensures.texts) c.requires.begun
    (rw c.as_slice.ensures.keys at c.in_ok-add_dictionary_page.ensures) c.in_ok-add_coded_page.ensures c.len-first_page.ensures (ap Some c.len-dictionary_page.ensures)
    (rw (c.len-end.ensures, c.len-dictionary_page.ensures) refl)
