-- Each is a lemma.
use Rattle.dk_lawful.proofs.BacklogExample as backlog
use Rattle.dk_lawful.proofs.laws.ratified_backlog.Goals as goal

pub returns-clause-lawful : goal.returns-clause-lawful
returns-clause-lawful c = backlog.backlog_is_lawful

pub returns-clause-ahead : goal.returns-clause-ahead
returns-clause-ahead c = backlog.backfill_ahead

pub returns-clause-ratified : goal.returns-clause-ratified
returns-clause-ratified c = backlog.ratified_below
