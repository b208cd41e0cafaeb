use Rattle.std.proofs.Common.{◌+◌, ◌*◌, ◌^◌, ◌<◌, ◌++◌, length, drop, arith, sym, ap, ◌∙◌}
use Rattle.dk_grammar.specs.Digits.{digits_of, number_of}
use Rattle.dk_hybrid.proofs.Groups.{masked}
use Rattle.dk_hybrid.proofs.Bits.{more_low, more_same, next_number, value_taken, bits_low, bits_left, byte_there, first_bits}
use Rattle.dk_hybrid.proofs.unpacking.unpack_each.Goals as goal

pub loop-left-init : goal.loop-left-init
loop-left-init c = record {
  same = ap (λ n. c.args.values.now.items ++ digits_of (2 ^ c.args.width) c.args.count n) (omega arith);
  low = omega arith;
  few = omega arith;
  enough = omega (arith, first_bits c.args.count c.args.width (length c.args.bytes.now) c.requires.enough);
}

pub loop-bits-preserved : goal.loop-bits-preserved
loop-bits-preserved c =
    let byte : c.from.result < 256 = omega (arith, c.type_inv.bytes c.loop-bits.next, c.from.ensures) in
    let within : c.loop-bits.next < length c.args.bytes.now = byte_there c.loop-left.left c.args.width c.loop-bits.bits c.loop-bits.next (length c.args.bytes.now) (omega arith) c.loop-bits.invariant.enough (omega arith) in
    record {
      same = ap (λ n. c.loop-left.values.items ++ digits_of (2 ^ c.args.width) c.loop-left.left n)
          (more_same c.loop-bits.ahead c.from.result c.loop-bits.bits 8 (number_of 256 (drop (c.loop-bits.next + 1) c.args.bytes.now)) (number_of 256 (drop c.loop-bits.next c.args.bytes.now)) byte (omega arith)
          (next_number c.args.bytes.now c.loop-bits.next within ∙ ap (λ b. b + 256 * number_of 256 (drop (c.loop-bits.next + 1) c.args.bytes.now)) (sym c.from.ensures)))
          ∙ c.loop-bits.invariant.same;
      low = more_low c.loop-bits.ahead c.from.result c.loop-bits.bits 8 c.loop-bits.invariant.low byte (omega arith);
      few = omega arith;
      enough = omega arith;
    }

pub loop-left-preserved : goal.loop-left-preserved
loop-left-preserved c = record {
  same = value_taken c.args.width c.loop-bits.bits c.loop-left.left c.loop-bits.ahead (number_of 256 (drop c.loop-bits.next c.args.bytes.now)) _ c.loop-left.values.items c.push.new.self.items _
      (omega arith) (omega arith) (masked c.args.width c.loop-bits.ahead (omega arith)) c.in_ok-push.ensures.items c.loop-bits.invariant.same;
  low = bits_low c.args.width c.loop-bits.bits c.loop-bits.ahead (omega arith) c.loop-bits.invariant.low;
  few = omega arith;
  enough = bits_left c.loop-left.left c.args.width c.loop-bits.bits c.loop-bits.next (length c.args.bytes.now) (omega arith) c.loop-bits.invariant.enough (omega arith);
}
