-- The laws are lemmas.
use Rattle.dk_txn.proofs.OpenStarts.{starts_as_some, starts_as_one}
use Rattle.dk_txn.proofs.laws.transactions_start_as_one.Goals as goal

pub returns-clause-some : goal.returns-clause-some
returns-clause-some c = starts_as_some

pub returns-clause-one : goal.returns-clause-one
returns-clause-one c = starts_as_one
