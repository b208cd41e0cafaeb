-- The laws are lemmas.
use Rattle.dk_txn.proofs.FitTransactions.{fit_is_next, standing_is_next, fit_comes}
use Rattle.dk_txn.proofs.Next.{attempts_are_transacted}
use Rattle.dk_txn.proofs.laws.fit_transactions_come_next.Goals as goal

pub returns-clause-next : goal.returns-clause-next
returns-clause-next c = fit_is_next

pub returns-clause-standing : goal.returns-clause-standing
returns-clause-standing c = standing_is_next

pub returns-clause-comes : goal.returns-clause-comes
returns-clause-comes c = fit_comes

pub returns-clause-transacted : goal.returns-clause-transacted
returns-clause-transacted c = attempts_are_transacted
