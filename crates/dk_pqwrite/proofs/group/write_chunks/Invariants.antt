use Rattle.dk_pqwrite.specs.Said.{SpellsChunkSaid}
use Rattle.dk_pqwrite.specs.Chunks.{chunk_said, path_of_chunk}
use Rattle.dk_pqwrite.specs.FooterSizes.{chunk_size}
use Rattle.dk_pqwrite.proofs.Structs.{GoesOn}
use Rattle.dk_pqwrite.proofs.group.write_chunks.Given as goal

abbrev pub invariant-loop-chunk : goal.invariant-loop-chunk
invariant-loop-chunk l = GoesOn SpellsChunkSaid chunk_said (λ chunk. chunk_size (path_of_chunk chunk)) l.chunks l.chunk-index l.fn.writer l.writer
