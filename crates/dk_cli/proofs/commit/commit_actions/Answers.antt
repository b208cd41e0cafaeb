use Rattle.std.proofs.Common.{refl}
use Rattle.dk_txn.specs.Attempt.{attempt}
use Rattle.dk_cli.proofs.Committing.{committed_ends, refused_ends, refused_puts, refused_says}
use Rattle.dk_cli.proofs.Once.{done_once, refused_once}
use Rattle.dk_cli.proofs.commit.commit_actions.Goals as goal

pub returns-in-Err-clause-puts : goal.returns-in-Err-clause-puts
returns-in-Err-clause-puts g c = refused_puts _ _ c.in-Err.refusal c.in-Err.ensures.effects.puts c.in-Err.ensures.effects.taken

pub returns-in-Ok-clause-answer : goal.returns-in-Ok-clause-answer
returns-in-Ok-clause-answer g c =
    committed_ends _ (λ events. attempt events c.args.options.limits c.args.actions c.args.options.now c.args.intent.id) c.in-Ok.committed.version _ _ _ _ c.give_committed.ensures.line c.in-Ok.ensures.commits

pub returns-in-Err-clause-answer : goal.returns-in-Err-clause-answer
returns-in-Err-clause-answer g c = refused_ends _ c.args.options.limits c.args.actions c.args.options.now c.args.intent.id _ _ c.in-Err.refusal _ refl c.in-Err.ensures.commits

pub returns-in-Err-clause-history : goal.returns-in-Err-clause-history
returns-in-Err-clause-history g c = refused_says _ _ c.args.options.now c.args.intent.id c.args.actions _ _ c.in-Err.refusal c.in-Err.ensures.history

pub returns-in-Err-clause-once : goal.returns-in-Err-clause-once
returns-in-Err-clause-once g c = refused_once c.args.options.now c.args.intent.id c.args.actions _ _ c.in-Err.refusal c.in-Err.ensures.history

pub returns-in-Ok-clause-once : goal.returns-in-Ok-clause-once
returns-in-Ok-clause-once g c = done_once c.args.options.now c.args.intent.id c.args.actions c.in-Ok.committed _ _ _ c.in-Ok.ensures.history
