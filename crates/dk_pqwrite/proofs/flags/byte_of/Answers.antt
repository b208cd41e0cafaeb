use Rattle.std.proofs.Common.{◌<◌, length, arith}
use Rattle.dk_pqwrite.proofs.Packing.{bit_small, next_bit, next_small}
use Rattle.dk_pqwrite.proofs.flags.byte_of.Goals as goal

pub loop-place-preserved : goal.loop-place-preserved
loop-place-preserved c =
    let bits = c.args.flags.now in
    let fits : c.bit.result < 2 = rw c.bit.ensures (bit_small _) in
    record {
      number = rw c.bit.ensures (next_bit bits c.loop-place.place c.loop-place.byte _ (omega arith) (omega arith) c.loop-place.invariant.number);
      small = next_small (length bits) c.loop-place.place c.loop-place.byte c.bit.result (omega arith) (omega arith) c.loop-place.invariant.small fits;
    }
