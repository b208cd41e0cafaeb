use Rattle.std.proofs.Common.{rules, ◌≡◌, ◌<◌, ◌≤◌, length, get_or, map, subst}
use Rattle.dk_grammar.specs.Lists.{SpellsEach}
use Rattle.dk_pqwrite.specs.Said.{SpellsChunkSaid}
use Rattle.dk_pqwrite.specs.Chunks.{chunk_said, path_of_chunk}
use Rattle.dk_pqwrite.specs.FooterSizes.{chunk_size}
use Rattle.dk_pqwrite.specs.Items.{WritesValue}
use Rattle.dk_pqwrite.proofs.Structs.{next_value, all_values, sum_of}
use Rattle.dk_pqwrite.proofs.group.write_chunks.Goals as goal

pub loop-chunk-preserved : goal.loop-chunk-preserved
loop-chunk-preserved c =
    let chunks = c.args.chunks.now in
    let chunk = c.chunk-item.result in
    let place = c.loop-chunk.chunk-index in
    let room : place < length chunks = search rules in
    let is : chunk ≡ get_or chunks place chunk = search rules in
    next_value SpellsChunkSaid chunk_said (λ chunk. chunk_size (path_of_chunk chunk)) chunks place chunk c.args.writer.now c.loop-chunk.writer c.write_chunk.new.writer room is c.loop-chunk.invariant c.in_ok-write_chunk.ensures

pub returns : goal.returns
returns c =
    let chunks = c.args.chunks.now in
    let past : length chunks ≤ c.loop-chunk.chunk-index = search rules in
    subst (λ most. WritesValue (SpellsEach SpellsChunkSaid) (map chunk_said chunks) most c.args.writer.now c.loop-chunk.writer) (sum_of chunk_size path_of_chunk chunks)
    (all_values SpellsChunkSaid chunk_said (λ chunk. chunk_size (path_of_chunk chunk)) chunks c.loop-chunk.chunk-index c.args.writer.now c.loop-chunk.writer past c.loop-chunk.invariant)
