use Rattle.std.proofs.Common.{◌-◌, None, [], length, map, string_bytes, refl, sym, arith}
use Rattle.std.proofs.lemmas.List.{length-map}
use Rattle.dk_levels.specs.Borrowed.{borrowed_triple}
use Rattle.dk_pqwrite.specs.declared.chunk.Chunk.{Chunk}
use Rattle.dk_pqwrite.proofs.WritingColumns.{grows, plain_written}
use Rattle.dk_pqwrite.proofs.pages.write_plain.Goals as goal

pub overflow_sub-result : goal.overflow_sub-result
overflow_sub-result c =
    let grown = grows _ _ c.args.out.now c.add_plain_page.new.out (c.in_ok-add_plain_page.ensures []) in
    omega (arith, grown, c.len-first_page.ensures, c.len-end.ensures)

pub returns-clause-written : goal.returns-clause-written
returns-clause-written c =
    let triples = c.args.triples.now in
    let chunk : Chunk = record {
      path = c.args.leaf.path;
      physical = c.physical_type.result;
      values = length triples;
      size = c.len-end.result - c.len-first_page.result;
      first_page = c.len-first_page.result;
      dictionary_page = None;
    } in
    plain_written c.args.leaf.column (map borrowed_triple triples) (map string_bytes c.args.leaf.path.items) chunk
    (record { typed = c.physical_type.ensures.code; small = c.physical_type.ensures.small; count = sym (length-map triples borrowed_triple); few = c.requires.few; names = refl })
    c.args.out.now c.add_plain_page.new.out c.in_ok-add_plain_page.ensures c.len-first_page.ensures refl (rw (c.len-end.ensures, c.len-first_page.ensures) refl)
