-- Each event lacks one condition.
use Rattle.dk_lawful.proofs.ForbiddenCheckpoints as forbidden
use Rattle.dk_lawful.proofs.checkpoint_laws.forbidden_checkpoints.Goals as goal

pub returns-clause-beyond : goal.returns-clause-beyond
returns-clause-beyond c = forbidden.checkpoint_beyond

pub returns-clause-other_version : goal.returns-clause-other_version
returns-clause-other_version c = forbidden.other_version

pub returns-clause-does_other : goal.returns-clause-does_other
returns-clause-does_other c = forbidden.does_other

pub returns-clause-sidecar_absent : goal.returns-clause-sidecar_absent
returns-clause-sidecar_absent c = forbidden.sidecar_absent

pub returns-clause-classic_in_json : goal.returns-clause-classic_in_json
returns-clause-classic_in_json c = forbidden.classic_in_json

pub returns-clause-part_in_json : goal.returns-clause-part_in_json
returns-clause-part_in_json c = forbidden.part_in_json

pub returns-clause-over_checkpoint : goal.returns-clause-over_checkpoint
returns-clause-over_checkpoint c = forbidden.over_checkpoint

pub returns-clause-over_part : goal.returns-clause-over_part
returns-clause-over_part c = forbidden.over_part

pub returns-clause-over_compacted : goal.returns-clause-over_compacted
returns-clause-over_compacted c = forbidden.over_compacted

pub returns-clause-over_sidecar : goal.returns-clause-over_sidecar
returns-clause-over_sidecar c = forbidden.over_sidecar

pub returns-clause-over_staged : goal.returns-clause-over_staged
returns-clause-over_staged c = forbidden.over_staged

pub returns-clause-commit_of_checkpoint : goal.returns-clause-commit_of_checkpoint
returns-clause-commit_of_checkpoint c = forbidden.commit_of_checkpoint

pub returns-clause-newest_checkpoint : goal.returns-clause-newest_checkpoint
returns-clause-newest_checkpoint c = forbidden.newest_checkpoint

pub returns-clause-newest_part : goal.returns-clause-newest_part
returns-clause-newest_part c = forbidden.newest_part

pub returns-clause-compacted_above : goal.returns-clause-compacted_above
returns-clause-compacted_above c = forbidden.compacted_above

pub returns-clause-named_sidecar : goal.returns-clause-named_sidecar
returns-clause-named_sidecar c = forbidden.named_sidecar

pub returns-clause-staged_of_ratified : goal.returns-clause-staged_of_ratified
returns-clause-staged_of_ratified c = forbidden.staged_of_ratified

pub returns-clause-ratified_commit : goal.returns-clause-ratified_commit
returns-clause-ratified_commit c = forbidden.ratified_commit

pub returns-clause-unstaged : goal.returns-clause-unstaged
returns-clause-unstaged c = forbidden.unstaged

pub returns-clause-ratified_beyond : goal.returns-clause-ratified_beyond
returns-clause-ratified_beyond c = forbidden.ratified_beyond

pub returns-clause-other_bytes : goal.returns-clause-other_bytes
returns-clause-other_bytes c = forbidden.other_bytes

pub returns-clause-no_version : goal.returns-clause-no_version
returns-clause-no_version c = forbidden.no_version

pub returns-clause-version_twice : goal.returns-clause-version_twice
returns-clause-version_twice c = forbidden.version_twice

pub returns-clause-no_sidecar_name : goal.returns-clause-no_sidecar_name
returns-clause-no_sidecar_name c = forbidden.no_sidecar_name

pub returns-clause-over_classic : goal.returns-clause-over_classic
returns-clause-over_classic c = forbidden.over_classic

pub returns-clause-newest_classic : goal.returns-clause-newest_classic
returns-clause-newest_classic c = forbidden.newest_classic
