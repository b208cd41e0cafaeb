use Rattle.std.proofs.Common.{◌-◌, length, refl, ◌∙◌, arith}
use Rattle.dk_pqread.proofs.Before.{front_is, long, size_is}
use Rattle.dk_pqread.proofs.examine.before_footer.Goals as goal

pub slice_bounds-result-count : goal.slice_bounds-result-count
slice_bounds-result-count c =
    let bytes = c.args.bytes.now in
    let size = c.number-size.ensures ∙ size_is bytes c.requires.0 c.requires.1 c.requires.2 (length bytes - 8) refl in
    omega (arith, size, long bytes c.requires.0 c.requires.1 c.requires.2)

pub returns : goal.returns
returns c = λ before part framed.
    front_is c.args.bytes.now before part framed c.number-size.result (c.number-size.ensures ∙ size_is c.args.bytes.now before part framed (length c.args.bytes.now - 8) refl)
