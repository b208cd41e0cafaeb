use Rattle.std.proofs.Common.{refl, ap, rules}
use Rattle.std.specs.Prelude.{Option, Some, Ok, Err, ℕ}
use Rattle.dk_store.proofs.Growing.{grows_alike}
use Rattle.dk_txn.specs.declared.commit.Committed.{Committed}
use Rattle.dk_txn.proofs.Effects.{unmoved_puts}
use Rattle.dk_txn.proofs.OwnStaysFit.{tells_again, tells_own}
use Rattle.dk_txn.proofs.StandingCommits.{stays_lawful, tells_from}
use Rattle.dk_txn.proofs.transaction.Transaction.commit.Goals as goal

pub returns-in-Some-clause-own : goal.returns-in-Some-clause-own
returns-in-Some-clause-own g c =
    tells_again _ _ c.args.self.now c.args.self.now c.args.options.now c.in-Some.version _ c.in-Some.is refl (ap (λ (committed : Option ℕ). record c.args.self.now { committed = committed }) c.in-Some.is) refl

pub returns-in-Err-clause-own : goal.returns-in-Err-clause-own
returns-in-Err-clause-own g c =
    tells_own _ _ c.args.options.limits c.args.self.now c.args.self.now c.args.options.now _ (Err c.in-Err.refusal) refl (search rules) refl (grows_alike _ _ c.in-Err.ensures.effects.puts.grows)
    c.in-Err.ensures.commits c.in-Err.ensures.lawful c.in-Err.ensures.history

pub returns-in-Ok-clause-own : goal.returns-in-Ok-clause-own
returns-in-Ok-clause-own g c =
    tells_own _ _ c.args.options.limits c.args.self.now (record c.args.self.now { committed = Some c.in-Ok.committed.version }) c.args.options.now _ (Ok c.in-Ok.committed) refl (search rules) refl
    (grows_alike _ _ c.in-Ok.ensures.effects.puts.grows) c.in-Ok.ensures.commits c.in-Ok.ensures.lawful c.in-Ok.ensures.history

pub returns-in-Some-clause-effects : goal.returns-in-Some-clause-effects
returns-in-Some-clause-effects g c = record { puts = unmoved_puts {Y = Committed} _ _; refusals = tt; taken = tt }

pub returns-in-Err-clause-lawful : goal.returns-in-Err-clause-lawful
returns-in-Err-clause-lawful g c = λ fresh. stays_lawful _ _ c.args.options.limits c.args.self.now _ (grows_alike _ _ c.in-Err.ensures.effects.puts.grows) c.in-Err.ensures.lawful

pub returns-in-Ok-clause-lawful : goal.returns-in-Ok-clause-lawful
returns-in-Ok-clause-lawful g c = λ fresh. stays_lawful _ _ c.args.options.limits c.args.self.now _ (grows_alike _ _ c.in-Ok.ensures.effects.puts.grows) c.in-Ok.ensures.lawful

pub returns-in-Err-clause-history : goal.returns-in-Err-clause-history
returns-in-Err-clause-history g c = λ fresh.
    tells_from _ _ c.args.options.limits c.args.self.now c.args.options.now _ (Err c.in-Err.refusal) refl (grows_alike _ _ c.in-Err.ensures.effects.puts.grows) c.in-Err.ensures.commits c.in-Err.ensures.history

pub returns-in-Ok-clause-history : goal.returns-in-Ok-clause-history
returns-in-Ok-clause-history g c = λ fresh.
    tells_from _ _ c.args.options.limits c.args.self.now c.args.options.now _ (Ok c.in-Ok.committed) refl (grows_alike _ _ c.in-Ok.ensures.effects.puts.grows) c.in-Ok.ensures.commits c.in-Ok.ensures.history
