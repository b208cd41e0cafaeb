use Rattle.std.proofs.Common.{◌^◌, ◌≡◌, ◌++◌, ◌∷◌, [], arith, ap, ◌∙◌}
use Rattle.dk_grammar.specs.Digits.{digits_of, number_of}
use Rattle.dk_grammar.specs.Runs.{bytes_for}
use Rattle.dk_hybrid.proofs.Made.{copies_made, on_ok_made}
use Rattle.dk_hybrid.proofs.encoding.append_repeated.Goals as goal

pub returns : goal.returns
returns c =
    let len : c.div_ceil-len.result ≡ bytes_for c.args.width = omega (arith, c.div_ceil-len.ensures, c.from.ensures) in
    on_ok_made c.pack.result c.pack.new.out.items _
    (λ is. copies_made c.args.width c.args.value c.args.copies c.args.out.now.items c.append_number.new.out.items c.pack.new.out.items
    c.requires.narrow c.requires.fit c.requires.many c.in_ok-append_number.ensures
    (is ∙ ap (λ n. c.append_number.new.out.items ++ digits_of 256 n (number_of (2 ^ c.args.width) (c.args.value ∷ []))) len))
    c.pack.ensures
