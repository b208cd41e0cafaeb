use Rattle.std.proofs.Common.{◌+◌, ◌-◌, ◌<◌, ◌≤◌, ◌≡◌, ◌*◌, ◌^◌, min, get_or, drop, arith, refl, subst}
use Rattle.dk_hybrid.specs.Headers.{BeginNumber}
use Rattle.dk_hybrid.proofs.Numbers.{longer_number}
use Rattle.dk_hybrid.proofs.header.number_up_to.Goals as goal

pub loop-i-preserved : goal.loop-i-preserved
loop-i-preserved c =
    let byte = get_or c.args.bytes.now (c.loop-i.i - 1) 0 in
    let large : 128 ≤ byte = c.requires.goes_on (c.loop-i.i - 1) (omega arith) in
    let fits : byte < 256 = omega (arith, c.type_inv.bytes (c.loop-i.i - 1)) in
    let kept : min (min (c.loop-i.number * 128) (2 ^ 64 - 1) + (byte - 128)) (2 ^ 64 - 1) ≡ c.saturating_add-number.result = omega (arith, c.saturating_add-number.ensures, c.saturating_mul.ensures, c.from.ensures) in
    subst (λ n. BeginNumber (drop (c.loop-i.i - 1) c.args.bytes.now) n (drop (c.args.last + 1) c.args.bytes.now)) kept
    (longer_number c.args.bytes.now c.loop-i.i c.loop-i.number byte (drop (c.args.last + 1) c.args.bytes.now) (omega arith) (omega arith) refl large fits c.loop-i.invariant)
