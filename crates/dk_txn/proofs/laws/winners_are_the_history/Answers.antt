-- The laws are lemmas.
use Rattle.dk_txn.proofs.LawfulWinners.{others_are_later, own_is_had}
use Rattle.dk_txn.proofs.laws.winners_are_the_history.Goals as goal

pub returns-clause-others : goal.returns-clause-others
returns-clause-others c = others_are_later

pub returns-clause-own : goal.returns-clause-own
returns-clause-own c = own_is_had
