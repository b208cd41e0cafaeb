use Rattle.std.proofs.Common.{◌+◌, ◌*◌, ◌/◌, ◌^◌, ◌≡◌, ◌++◌, length, arith, ap, ◌∙◌}
use Rattle.dk_grammar.specs.Digits.{digits_of, number_of}
use Rattle.dk_hybrid.proofs.Made.{groups_made, on_ok_made}
use Rattle.dk_hybrid.proofs.encoding.append_packed.Goals as goal

pub returns : goal.returns
returns c =
    let groups : c.div_ceil-groups.result ≡ (length c.args.values.now + 7) / 8 = omega (arith, c.div_ceil-groups.ensures) in
    on_ok_made c.pack.result c.pack.new.out.items _
    (λ is. groups_made c.args.width c.div_ceil-groups.result c.args.values.now c.args.out.now.items c.append_number.new.out.items c.pack.new.out.items
    c.requires.narrow c.requires.some c.requires.fit groups c.in_ok-append_number.ensures
    (is ∙ ap (λ w. c.append_number.new.out.items ++ digits_of 256 (c.div_ceil-groups.result * w) (number_of (2 ^ c.args.width) c.args.values.now)) c.from.ensures))
    c.pack.ensures
