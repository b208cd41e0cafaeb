use Rattle.std.proofs.Common.{◌-◌, length, arith}
use Rattle.dk_hybrid.proofs.Groups.{next_byte, next_small, next_fits}
use Rattle.dk_hybrid.proofs.unpacking.number_in.Goals as goal

pub overflow_mul-number : goal.overflow_mul-number
overflow_mul-number c =
    let zero_fits = next_fits (length c.args.bytes.now) c.loop-i.i c.loop-i.number 0 (omega arith) (omega arith) c.requires c.loop-i.invariant.small (omega arith) in
    omega (arith, zero_fits)

pub overflow_add-number : goal.overflow_add-number
overflow_add-number c =
    let fits = next_fits (length c.args.bytes.now) c.loop-i.i c.loop-i.number c.from.result (omega arith) (omega arith) c.requires c.loop-i.invariant.small (omega (arith, c.type_inv.bytes (c.loop-i.i - 1), c.from.ensures)) in
    omega (arith, fits)

pub loop-i-preserved : goal.loop-i-preserved
loop-i-preserved c = record {
  number = next_byte c.args.bytes.now c.loop-i.i c.loop-i.number c.from.result (omega arith) (omega arith) c.loop-i.invariant.number c.from.ensures;
  small = next_small (length c.args.bytes.now) c.loop-i.i c.loop-i.number c.from.result (omega arith) (omega arith) c.loop-i.invariant.small (omega (arith, c.type_inv.bytes (c.loop-i.i - 1), c.from.ensures));
}
