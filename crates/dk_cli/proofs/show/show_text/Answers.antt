use Rattle.std.specs.Prelude.{ℕ, Vec}
use Rattle.std.specs.Global.{Global}
use Rattle.std.proofs.lemmas.Int.{to_z-of_z}
use mir.Syntax.{w64}
use Rattle.dk_cli.proofs.Shown.{show_done, show_refused}
use Rattle.dk_cli.proofs.show.show_text.Goals as goal

pub returns-in-Err-clause-means : goal.returns-in-Err-clause-means
returns-in-Err-clause-means g c =
    show_refused c.args.engine.now.limits _ c.args.choice.now c.args.now (λ (text : Vec ℕ Global). text.items) _ _ c.in-Err.refusal (to_z-of_z w64 c.args.now c.ranges.now) c.in-Err.ensures.means

pub returns-in_ok-text_of-in-Ok-clause-means : goal.returns-in_ok-text_of-in-Ok-clause-means
returns-in_ok-text_of-in-Ok-clause-means g c =
    show_done c.args.engine.now.limits _ c.args.choice.now c.args.now _ _ c.in-Ok.snapshot _ (to_z-of_z w64 c.args.now c.ranges.now) c.in_ok-text_of-in-Ok.ensures c.in-Ok.ensures.means
