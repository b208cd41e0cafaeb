use Rattle.std.proofs.Common.{refl, ap, ◌∙◌}
use Rattle.dk_txn.specs.declared.transaction.Transaction.{Transaction}
use Rattle.dk_txn.proofs.Refusals.{begin_in_one, commit_in_one}
use Rattle.dk_txn.specs.declared.commit.Committed.{Committed}
use Rattle.dk_txn.proofs.Clashes.{begins_untaken, taken_from}
use Rattle.dk_txn.proofs.Effects.{refused_puts, puts_after_reads}
use Rattle.dk_txn.proofs.AtLatest.{filled_items, latest_commits, latest_lawful, latest_says, latest_transacts}
use Rattle.dk_txn.proofs.latest.commit_at_latest.Goals as goal

pub returns-in-Ok-with_actions-clause-commits : goal.returns-in-Ok-with_actions-clause-commits
returns-in-Ok-with_actions-clause-commits g c =
    latest_commits c.args.options.limits c.args.options.now _ c.in-Ok.begun c.in-Ok-with_actions.transaction c.args.actions c.args.intent.id refl
    (ap (λ (t : Transaction). t.from) c.in-Ok-with_actions.ensures.same) (filled_items c.in-Ok.begun c.in-Ok-with_actions.transaction c.args.actions c.in-Ok.ensures.new.actions c.in-Ok-with_actions.ensures.laid) (ap (λ (t : Transaction). t.id) c.in-Ok-with_actions.ensures.same ∙ c.in-Ok.ensures.new.id)
    _ _ _ c.commit_fresh.result c.in-Ok.ensures.effects.reads.same c.in-Ok.ensures.means c.commit_fresh.ensures.commits

pub returns-in-Ok-with_actions-clause-lawful : goal.returns-in-Ok-with_actions-clause-lawful
returns-in-Ok-with_actions-clause-lawful g c =
    latest_lawful c.args.options.limits c.args.options.now _ c.in-Ok.begun c.in-Ok-with_actions.transaction c.args.actions c.args.intent.id refl
    (ap (λ (t : Transaction). t.from) c.in-Ok-with_actions.ensures.same) (filled_items c.in-Ok.begun c.in-Ok-with_actions.transaction c.args.actions c.in-Ok.ensures.new.actions c.in-Ok-with_actions.ensures.laid) (ap (λ (t : Transaction). t.id) c.in-Ok-with_actions.ensures.same ∙ c.in-Ok.ensures.new.id)
    _ _ _ c.in-Ok.ensures.effects.reads.same c.in-Ok.ensures.means c.commit_fresh.ensures.lawful

pub returns-in-Ok-with_actions-clause-history : goal.returns-in-Ok-with_actions-clause-history
returns-in-Ok-with_actions-clause-history g c =
    latest_says c.args.options.limits c.args.options.now _ c.in-Ok.begun c.in-Ok-with_actions.transaction c.args.actions c.args.intent.id refl
    (ap (λ (t : Transaction). t.from) c.in-Ok-with_actions.ensures.same) (filled_items c.in-Ok.begun c.in-Ok-with_actions.transaction c.args.actions c.in-Ok.ensures.new.actions c.in-Ok-with_actions.ensures.laid) (ap (λ (t : Transaction). t.id) c.in-Ok-with_actions.ensures.same ∙ c.in-Ok.ensures.new.id)
    _ _ _ c.commit_fresh.result c.in-Ok.ensures.effects.reads.same c.in-Ok.ensures.means c.commit_fresh.ensures.history

pub returns-in-Ok-with_actions-clause-transacts : goal.returns-in-Ok-with_actions-clause-transacts
returns-in-Ok-with_actions-clause-transacts g c =
    latest_transacts c.args.options.limits c.args.options.now _ c.in-Ok.begun c.in-Ok-with_actions.transaction c.args.actions c.args.intent.id refl
    (ap (λ (t : Transaction). t.from) c.in-Ok-with_actions.ensures.same) (filled_items c.in-Ok.begun c.in-Ok-with_actions.transaction c.args.actions c.in-Ok.ensures.new.actions c.in-Ok-with_actions.ensures.laid)
    (ap (λ (t : Transaction). t.id) c.in-Ok-with_actions.ensures.same ∙ c.in-Ok.ensures.new.id)
    c.args.intent.reads _ _ _ c.commit_fresh.result (ap (λ (t : Transaction). t.reads) c.in-Ok-with_actions.ensures.same ∙ c.in-Ok.ensures.new.reads)
    (ap (λ (t : Transaction). t.committed) c.in-Ok-with_actions.ensures.same ∙ c.in-Ok.ensures.new.committed)
    c.in-Ok.ensures.effects.reads.same c.in-Ok.ensures.means c.commit_fresh.ensures.concludes

pub returns-in-Err-clause-effects : goal.returns-in-Err-clause-effects
returns-in-Err-clause-effects g c = record {
  puts = refused_puts {X = Transaction} {Y = Committed} _ _ c.in-Err.refusal c.in-Err.ensures.effects.reads;
  refusals = begin_in_one c.in-Err.refusal c.in-Err.ensures.effects.refusals;
  taken = begins_untaken c.in-Err.refusal _ _ c.in-Err.ensures.effects.refusals;
}

pub returns-in-Ok-with_actions-clause-effects : goal.returns-in-Ok-with_actions-clause-effects
returns-in-Ok-with_actions-clause-effects g c = record {
  puts = puts_after_reads {X = Transaction} {Y = Committed} _ _ _ _ c.commit_fresh.result c.in-Ok.ensures.effects.reads c.commit_fresh.ensures.effects.puts;
  refusals = commit_in_one c.commit_fresh.result c.commit_fresh.ensures.effects.refusals;
  taken = taken_from c.commit_fresh.result _ _ _ c.in-Ok.ensures.effects.reads.clashes_same c.commit_fresh.ensures.effects.taken;
}
