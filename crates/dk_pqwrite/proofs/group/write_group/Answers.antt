use Rattle.std.proofs.Common.{rules, ◌≡◌, ◌+◌, arith, map, subst}
use Rattle.dk_grammar.specs.Lists.{SpellsListOf}
use Rattle.dk_pqwrite.specs.Said.{SpellsChunkSaid}
use Rattle.dk_pqwrite.specs.Chunks.{chunk_said, chunks_size}
use Rattle.dk_pqwrite.specs.Items.{PutsHeld}
use Rattle.dk_pqwrite.proofs.FooterStructs.{group_added}
use Rattle.dk_pqwrite.proofs.group.write_group.Goals as goal

pub returns : goal.returns
returns c =
    let group = c.args.group.now in
    let most = chunks_size group.chunks.items in
    let same : c.deref.result.now ≡ group.chunks.items = search rules in
    group_added (map chunk_said group.chunks.items) group.size group.rows (6 + most) (30 + most) c.args.writer.now c.enter.new.self c.put_chunks.new.writer c.put_number.new.writer c.put_number-2.new.writer c.end.new.self (omega arith) c.requires.fit.size
    c.requires.fit.rows c.requires.in_struct c.in_ok-enter.ensures
    (subst (λ chunks. PutsHeld 1 9 (SpellsListOf 12 SpellsChunkSaid) (map chunk_said chunks) (6 + chunks_size chunks) c.enter.new.self c.put_chunks.new.writer) same c.in_ok-put_chunks.ensures)
    c.in_ok-put_number.ensures c.in_ok-put_number-2.ensures c.in_ok-end.ensures.written
