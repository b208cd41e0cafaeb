use Rattle.std.proofs.Common.{◌==◌, ◌+◌, ◌-◌, ◌≡◌, ◌∷◌, length, take, drop, ◌∙◌, ap, sym, arith}
use Rattle.std.proofs.lemmas.Grind.{common_steps}
use Rattle.dk_model.specs.CommitText.{lines_of}
use Rattle.dk_actjson.proofs.LineTurns.{cut_none, cut_some}
use Rattle.dk_actjson.proofs.read.first_line.Goals as goal

pub returns-in-Some-clause-cut : goal.returns-in-Some-clause-cut
returns-in-Some-clause-cut c =
    let s = c.args.bytes.now in
    let behind : take (length s - (c.in-Some.at + 1)) (drop (c.in-Some.at + 1) s) ≡ drop (c.in-Some.at + 1) s = grind (arith, common_steps) in
    cut_some (λ b. b == 10) s c.in-Some.at (sym c.in-Some.ensures) ∙ ap (λ r. take c.in-Some.at s ∷ lines_of r) (sym behind)

pub returns-in-None-clause-cut : goal.returns-in-None-clause-cut
returns-in-None-clause-cut c = cut_none (λ b. b == 10) c.args.bytes.now (sym c.in-None.ensures)
