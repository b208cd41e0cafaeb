use Rattle.std.proofs.Common.{◌≡◌, true, false, rules}
use Rattle.dk_store.proofs.Growing.{grows_alike, grows_on}
use Rattle.dk_txn.specs.Commits.{was_taken}
use Rattle.dk_txn.proofs.Clashes.{taken_again, never_taken}
use Rattle.dk_txn.specs.declared.commit.Committed.{Committed}
use Rattle.dk_txn.proofs.Effects.{puts_twice}
use Rattle.dk_txn.proofs.Concluding.{clash_never}
use Rattle.dk_txn.proofs.Lawfully.{never_both}
use Rattle.dk_txn.proofs.transaction.commit_with_retry.Goals as goal

pub returns-then-was_taken-clause-commits : goal.returns-then-was_taken-clause-commits
returns-then-was_taken-clause-commits g c =
    let was : was_taken c.attempt_commit-answer.result ≡ true = search rules in
    clash_never _ _ c.args.options.limits c.args.transaction.now _ c.attempt_commit-answer.result _ was c.attempt_commit-answer.ensures.commits

pub returns-then-was_taken-clause-lawful : goal.returns-then-was_taken-clause-lawful
returns-then-was_taken-clause-lawful g c = λ comes.
    let was : was_taken c.attempt_commit-answer.result ≡ true = search rules in
    never_both _ _ _ (clash_never _ _ c.args.options.limits c.args.transaction.now _ c.attempt_commit-answer.result _ was c.attempt_commit-answer.ensures.commits) (grows_alike _ _ (grows_on _ _ _ c.attempt_commit-answer.ensures.puts.grows c.attempt_commit.ensures.puts.grows))

pub returns-then-was_taken-clause-history : goal.returns-then-was_taken-clause-history
returns-then-was_taken-clause-history g c = λ comes.
    let was : was_taken c.attempt_commit-answer.result ≡ true = search rules in
    never_both _ _ _ (clash_never _ _ c.args.options.limits c.args.transaction.now _ c.attempt_commit-answer.result _ was c.attempt_commit-answer.ensures.commits) (grows_alike _ _ (grows_on _ _ _ c.attempt_commit-answer.ensures.puts.grows c.attempt_commit.ensures.puts.grows))

pub returns-then-was_taken-clause-effects : goal.returns-then-was_taken-clause-effects
returns-then-was_taken-clause-effects g c =
    let was : was_taken c.attempt_commit-answer.result ≡ true = search rules in record {
      puts = puts_twice {X = Committed} {Y = Committed} _ _ _ c.attempt_commit-answer.result c.attempt_commit.result c.attempt_commit-answer.ensures.puts c.attempt_commit.ensures.puts;
      refusals = c.attempt_commit.ensures.refusals;
      taken = taken_again c.attempt_commit-answer.result c.attempt_commit.result _ _ _ was c.attempt_commit-answer.ensures.clash c.attempt_commit.ensures.clash;
    }

pub returns-else-was_taken-clause-effects : goal.returns-else-was_taken-clause-effects
returns-else-was_taken-clause-effects g c =
    let was : was_taken c.attempt_commit-answer.result ≡ false = search rules in
    record { puts = c.attempt_commit-answer.ensures.puts; refusals = c.attempt_commit-answer.ensures.refusals; taken = never_taken c.attempt_commit-answer.result _ _ was }
