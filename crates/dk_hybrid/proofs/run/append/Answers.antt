use Rattle.std.proofs.Common.{◌-◌, ◌*◌, ◌≡◌, ◌^◌, ◌++◌, min, take, arith, sym, ap, ◌∙◌}
use Rattle.dk_grammar.specs.Digits.{number_of}
use Rattle.dk_hybrid.specs.Runs.{kept_values}
use Rattle.dk_hybrid.proofs.Standing.{some_digits, on_ok_same}
use Rattle.dk_hybrid.proofs.run.append.Goals as goal

pub returns-in-Packed : goal.returns-in-Packed
returns-in-Packed c =
    let count : c.min-count-in-Packed.result ≡ min (min (c.in-Packed.groups * 8) (2 ^ 64 - 1)) c.args.most = omega (arith, c.min-count-in-Packed.ensures, c.saturating_mul.ensures) in
    let values = some_digits (2 ^ c.args.width) c.args.most c.in-Packed.groups (number_of 256 c.in-Packed.body.now) c.min-count-in-Packed.result count (omega arith) in
    on_ok_same c.unpack.result c.unpack.new.values.items _ _ c.unpack.ensures (ap (λ xs. c.args.values.now.items ++ xs) (values ∙ ap (λ r. take c.args.most (kept_values c.args.width r)) (sym c.in-Packed.is)))
