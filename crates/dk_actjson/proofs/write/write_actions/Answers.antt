use Rattle.std.proofs.Common.{◌≡◌, [], take, drop, sym, ap, subst, ◌∙◌, arith}
use Rattle.std.specs.List.{AllByRecursion}
use Rattle.std.proofs.lemmas.Grind.{common_steps}
use Rattle.dk_model.specs.CommitText.{commit_of}
use Rattle.dk_model.specs.ReadBack.{IsSound}
use Rattle.dk_model.specs.Written.{text_of}
use Rattle.dk_model.proofs.LinesBack.{writable, written_reads_back}
use Rattle.dk_actjson.proofs.write.write_actions.Goals as goal

pub returns-clause-reads_back : goal.returns-clause-reads_back
returns-clause-reads_back c = λ readable.
    let actions = c.args.actions.now in
    let all : take c.actions.action-index actions ≡ actions = grind (arith, common_steps) in
    let none : drop c.actions.action-index actions ≡ [] = grind (arith, common_steps) in
    let sound : AllByRecursion IsSound actions = c.actions.invariant.sound (subst (AllByRecursion IsSound) (sym none) tt) in
    ap commit_of (c.actions.invariant.text ∙ ap text_of all) ∙ written_reads_back actions (writable actions sound readable)
