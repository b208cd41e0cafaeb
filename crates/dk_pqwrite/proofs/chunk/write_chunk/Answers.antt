use Rattle.std.proofs.Common.{◌+◌, arith, sum_by}
use Rattle.dk_pqwrite.specs.Chunks.{meta_said, path_of_chunk}
use Rattle.dk_pqwrite.specs.FooterSizes.{chunk_size, name_size}
use Rattle.dk_pqwrite.proofs.FooterStructs.{chunk_added}
use Rattle.dk_pqwrite.proofs.chunk.write_chunk.Goals as goal

pub returns : goal.returns
returns c =
    let path = path_of_chunk c.args.chunk.now in
    chunk_added (meta_said c.args.chunk.now) (88 + sum_by name_size path) (chunk_size path) c.args.writer.now c.enter.new.self c.put_number.new.writer c.put_metadata.new.writer c.end.new.self (omega arith) c.requires.in_struct c.in_ok-enter.ensures
    c.in_ok-put_number.ensures c.in_ok-put_metadata.ensures c.in_ok-end.ensures.written
