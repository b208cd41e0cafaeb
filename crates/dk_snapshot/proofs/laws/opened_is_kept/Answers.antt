-- The laws are lemmas.
use Rattle.dk_snapshot.proofs.OpenedLaws as lemmas
use Rattle.dk_snapshot.proofs.laws.opened_is_kept.Goals as goal

pub returns-clause-kept : goal.returns-clause-kept
returns-clause-kept c = lemmas.opened_is_kept

pub returns-clause-missing : goal.returns-clause-missing
returns-clause-missing c = lemmas.not_kept_is_missing
