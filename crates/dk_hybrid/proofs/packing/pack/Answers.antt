use Rattle.std.proofs.Common.{◌+◌, ◌*◌, ◌^◌, ◌≡◌, ◌<◌, ◌++◌, arith, sym, ap, ◌∙◌}
use Rattle.std.proofs.lemmas.Nat.{pow_pos, and_mask}
use Rattle.dk_grammar.specs.Digits.{digits_of, number_of}
use Rattle.dk_hybrid.proofs.Bits.{more_low, more_same, value_taken, bits_low}
use Rattle.dk_hybrid.proofs.packing.pack.Goals as goal

pub loop-bits-preserved : goal.loop-bits-preserved
loop-bits-preserved c =
    let next = c.next_value-value.ensures.fit (2 ^ c.args.width) (pow_pos c.args.width) c.loop-bits.invariant.fit in
    let small : c.from.result < 2 ^ c.args.width = omega (arith, next.0, c.from.ensures) in
    let number : number_of (2 ^ c.args.width) c.loop-bits.rest.now ≡ c.from.result + 2 ^ c.args.width * number_of (2 ^ c.args.width) c.next_value-value.result.1.now =
    c.next_value-value.ensures.number (2 ^ c.args.width) ∙ ap (λ v. v + 2 ^ c.args.width * number_of (2 ^ c.args.width) c.next_value-value.result.1.now) (sym c.from.ensures) in
    record {
      same = ap (λ n. c.loop-left.out.items ++ digits_of 256 c.loop-left.left n)
          (more_same c.loop-bits.ahead c.from.result c.loop-bits.bits c.args.width (number_of (2 ^ c.args.width) c.next_value-value.result.1.now) (number_of (2 ^ c.args.width) c.loop-bits.rest.now) small (omega arith) number)
          ∙ c.loop-bits.invariant.same;
      low = more_low c.loop-bits.ahead c.from.result c.loop-bits.bits c.args.width c.loop-bits.invariant.low small (omega arith);
      few = omega arith;
      some = c.loop-bits.invariant.some;
      fit = next.1;
    }

pub loop-left-preserved : goal.loop-left-preserved
loop-left-preserved c = record {
  same = value_taken 8 c.loop-bits.bits c.loop-left.left c.loop-bits.ahead (number_of (2 ^ c.args.width) c.loop-bits.rest.now) _ c.loop-left.out.items c.push.new.self.items _
      (omega arith) (omega arith) (and_mask c.loop-bits.ahead 8) c.in_ok-push.ensures.items c.loop-bits.invariant.same;
  low = bits_low 8 c.loop-bits.bits c.loop-bits.ahead (omega arith) c.loop-bits.invariant.low;
  few = omega arith;
  some = λ h. c.loop-bits.invariant.some (omega arith);
  fit = c.loop-bits.invariant.fit;
}
