-- Each is computed.
use Rattle.dk_lawful.proofs.ManagedExample as managed
use Rattle.dk_lawful.proofs.laws.managed_tables.Goals as goal

pub returns-clause-lawful : goal.returns-clause-lawful
returns-clause-lawful c = managed.managed_is_lawful

pub returns-clause-history : goal.returns-clause-history
returns-clause-history c = managed.managed_history

pub returns-clause-by_file : goal.returns-clause-by_file
returns-clause-by_file c = managed.by_file_alone

pub returns-clause-not_later : goal.returns-clause-not_later
returns-clause-not_later c = managed.not_later

pub returns-clause-other_name : goal.returns-clause-other_name
returns-clause-other_name c = managed.other_name

pub returns-clause-not_next : goal.returns-clause-not_next
returns-clause-not_next c = managed.not_next

pub returns-clause-staged_absent : goal.returns-clause-staged_absent
returns-clause-staged_absent c = managed.staged_absent

pub returns-clause-staged_means_nothing : goal.returns-clause-staged_means_nothing
returns-clause-staged_means_nothing c = managed.staged_means_nothing

pub returns-clause-other_bytes : goal.returns-clause-other_bytes
returns-clause-other_bytes c = managed.other_bytes

pub returns-clause-checkpoint_early : goal.returns-clause-checkpoint_early
returns-clause-checkpoint_early c = managed.checkpoint_early

pub returns-clause-forgotten_early : goal.returns-clause-forgotten_early
returns-clause-forgotten_early c = managed.forgotten_early

pub returns-clause-dropped_early : goal.returns-clause-dropped_early
returns-clause-dropped_early c = managed.dropped_early
