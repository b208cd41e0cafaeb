-- The laws are lemmas.
use Rattle.dk_snapshot.proofs.LastVersion as last
use Rattle.dk_snapshot.proofs.OpenedLaws as lemmas
use Rattle.dk_snapshot.proofs.Undeleted as undeleted
use Rattle.dk_snapshot.proofs.laws.lawful_opens.Goals as goal

pub returns-clause-latest : goal.returns-clause-latest
returns-clause-latest c = last.latest_is_last

pub returns-clause-asked : goal.returns-clause-asked
returns-clause-asked c = lemmas.opened_is_asked

pub returns-clause-agrees : goal.returns-clause-agrees
returns-clause-agrees c = lemmas.opened_agrees

pub returns-clause-state : goal.returns-clause-state
returns-clause-state c = lemmas.opened_is_table

pub returns-clause-cut : goal.returns-clause-cut
returns-clause-cut c = lemmas.opened_has_cut

pub returns-clause-kept : goal.returns-clause-kept
returns-clause-kept c = lemmas.kept_is_answered

pub returns-clause-undeleted : goal.returns-clause-undeleted
returns-clause-undeleted c = undeleted.undeleted_is_kept

pub returns-clause-missing : goal.returns-clause-missing
returns-clause-missing c = lemmas.gap_is_missing

pub returns-clause-above : goal.returns-clause-above
returns-clause-above c = lemmas.above_is_no_version

pub returns-clause-empty : goal.returns-clause-empty
returns-clause-empty c = lemmas.empty_is_missing

pub returns-clause-each : goal.returns-clause-each
returns-clause-each c = lemmas.each_answer
