-- The laws are lemmas.
use Rattle.dk_lawful.proofs.Stays.{last_published_is_one, log_shows_history, standing_commit_is_history, staged_commit_is_history, last_is_published, last_is_available, none_beyond_last}
use Rattle.dk_lawful.proofs.WholeLog.{whole_log_is_one}
use Rattle.dk_lawful.proofs.Validly.{table_is_whole}
use Rattle.dk_lawful.proofs.ReadLog.{read_log_is_history}
use Rattle.dk_lawful.proofs.laws.log_is_the_history.Goals as goal

pub returns-clause-shown : goal.returns-clause-shown
returns-clause-shown c = log_shows_history

pub returns-clause-commit : goal.returns-clause-commit
returns-clause-commit c = standing_commit_is_history

pub returns-clause-staged : goal.returns-clause-staged
returns-clause-staged c = staged_commit_is_history

pub returns-clause-one : goal.returns-clause-one
returns-clause-one c = whole_log_is_one

pub returns-clause-whole : goal.returns-clause-whole
returns-clause-whole c = table_is_whole

pub returns-clause-last : goal.returns-clause-last
returns-clause-last c = last_is_published

pub returns-clause-available : goal.returns-clause-available
returns-clause-available c = last_is_available

pub returns-clause-none_beyond : goal.returns-clause-none_beyond
returns-clause-none_beyond c = none_beyond_last

pub returns-clause-last_one : goal.returns-clause-last_one
returns-clause-last_one c = last_published_is_one

pub returns-clause-read : goal.returns-clause-read
returns-clause-read c = read_log_is_history
