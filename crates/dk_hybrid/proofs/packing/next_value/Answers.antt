use Rattle.std.proofs.Common.{◌<◌, ◌∷◌, sym}
use Rattle.std.specs.List.{All}
use Rattle.std.proofs.lemmas.List.Elements.{All-head, All-tail, All-same}
use Rattle.dk_hybrid.proofs.packing.next_value.Goals as goal

pub returns-in-Some-clause-fit : goal.returns-in-Some-clause-fit
returns-in-Some-clause-fit c most some fit =
    let value = c.in-Some.value.now in
    let after = c.in-Some.after.now in
    let whole : All (λ v. v < most) (value ∷ after) = All-same (λ v. v < most) (value ∷ after) c.args.values.now (sym c.in-Some.ensures.cases.0) fit in
    (All-head (λ v. v < most) value after whole, All-tail (λ v. v < most) value after whole)
