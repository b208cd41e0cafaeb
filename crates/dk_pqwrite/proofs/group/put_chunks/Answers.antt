use Rattle.std.proofs.Common.{rules, ◌≡◌, ◌+◌, ◌<◌, ◌^◌, arith, length, map, refl}
use Rattle.dk_pqwrite.specs.Said.{SpellsChunkSaid}
use Rattle.dk_pqwrite.specs.Chunks.{chunk_said, chunks_size}
use Rattle.dk_pqwrite.proofs.Structs.{list_held, length_of_map}
use Rattle.dk_pqwrite.proofs.group.put_chunks.Goals as goal

pub returns : goal.returns
returns c =
    let chunks = c.args.chunks.now in
    let count = c.in_ok-count.count in
    let small : count < 2 ^ 32 = search rules in
    let many : count ≡ length chunks = search rules in
    let most = chunks_size chunks in
    list_held 1 12 count SpellsChunkSaid (map chunk_said chunks) most (6 + most) c.args.writer.now c.field.new.self c.list.new.self c.write_chunks.new.writer (omega arith) c.in_ok-field.ensures.written c.in_ok-list.ensures.written
    (length_of_map chunk_said chunks count many) small refl c.in_ok-write_chunks.ensures
