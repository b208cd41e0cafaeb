-- The laws are lemmas.
use Rattle.dk_txn.proofs.ByFile.{attempted_by_file}
use Rattle.dk_txn.proofs.Concluding.{written_by_file}
use Rattle.dk_txn.proofs.laws.commits_come_by_file.Goals as goal

pub returns-clause-written : goal.returns-clause-written
returns-clause-written c = written_by_file

pub returns-clause-attempted : goal.returns-clause-attempted
returns-clause-attempted c = attempted_by_file
