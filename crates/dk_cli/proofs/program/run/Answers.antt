use Rattle.std.proofs.Common.{ap, Some, None, ◌∙◌}
use Rattle.std.proofs.lemmas.Int.{to_z-of_z}
use mir.Syntax.{w64}
use Rattle.dk_cli.proofs.History.{as_asked, whole_log}
use Rattle.dk_cli.proofs.ShownHistory.{shows_history}
use Rattle.dk_cli.proofs.Committing.{answers_at, says_at}
use Rattle.dk_lawful.proofs.Calls.{same_is_past_each}
use Rattle.dk_cli.specs.declared.words.Command.{Command}
use Rattle.dk_cli.proofs.Touching.{reads_put, stays_lawful}
use Rattle.dk_cli.proofs.program.run.Goals as goal

pub returns-in-Some-Show-clause-show : goal.returns-in-Some-Show-clause-show
returns-in-Some-Show-clause-show g c = λ at choice asks. as_asked _ c.args.engine.now.limits c.command_of.result c.in-Some-Show.at at c.in-Some-Show.choice choice c.args.now _ _ _ _ (c.in-Some-Show.is ∙ ap (λ (command : Command). Some command) c.in-Some-Show.field-0-is) (c.command_of.ensures ∙ asks) (to_z-of_z w64 c.args.now c.ranges.now) c.show_command.ensures.answer

pub returns-in-Some-Show-clause-whole_log : goal.returns-in-Some-Show-clause-whole_log
returns-in-Some-Show-clause-whole_log g c = λ at choice asks. whole_log _ c.args.engine.now.limits at choice c.args.now _ _ _ (returns-in-Some-Show-clause-show g c at choice asks)

pub returns-in-Some-Show-clause-shows_history : goal.returns-in-Some-Show-clause-shows_history
returns-in-Some-Show-clause-shows_history g c = λ at choice asks. shows_history _ c.args.engine.now.limits at choice c.args.now _ _ _ (returns-in-Some-Show-clause-show g c at choice asks)

pub returns-in-Some-Commit-clause-commit : goal.returns-in-Some-Commit-clause-commit
returns-in-Some-Commit-clause-commit g c = λ reads asks. answers_at _ _ c.args.engine.now.limits c.args.now _ c.args.base _ _ _ _ (to_z-of_z w64 c.args.now c.ranges.now) c.commit_command.ensures.answer

pub returns-in-Some-Commit-clause-history : goal.returns-in-Some-Commit-clause-history
returns-in-Some-Commit-clause-history g c = λ reads asks. says_at _ _ _ c.args.engine.now.limits c.args.now _ c.args.base _ _ _ (to_z-of_z w64 c.args.now c.ranges.now) c.commit_command.ensures.history

pub returns-in-Some-Show-clause-puts : goal.returns-in-Some-Show-clause-puts
returns-in-Some-Show-clause-puts g c = reads_put c.in-Some-Show.at _ _ _ c.show_command.ensures.ends c.show_command.ensures.reads

pub returns-in-Some-Show-clause-lawful : goal.returns-in-Some-Show-clause-lawful
returns-in-Some-Show-clause-lawful g c = same_is_past_each None _ _ c.show_command.ensures.lawful

pub returns-in-Some-Commit-clause-lawful : goal.returns-in-Some-Commit-clause-lawful
returns-in-Some-Commit-clause-lawful g c = same_is_past_each None _ _ c.commit_command.ensures.lawful

pub returns-in-None-clause-lawful : goal.returns-in-None-clause-lawful
returns-in-None-clause-lawful g c = stays_lawful None _
