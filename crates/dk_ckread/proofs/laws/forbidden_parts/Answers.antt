-- Each lacks one condition.
use Rattle.dk_ckread.proofs.ForbiddenParquet as forbidden
use Rattle.dk_ckread.proofs.SidecarExample.{other_rows}
use Rattle.dk_ckread.proofs.laws.forbidden_parts.Goals as goal

pub returns-clause-other_share : goal.returns-clause-other_share
returns-clause-other_share c = forbidden.other_share

pub returns-clause-beyond : goal.returns-clause-beyond
returns-clause-beyond c = forbidden.part_beyond

pub returns-clause-other_rows : goal.returns-clause-other_rows
returns-clause-other_rows c = other_rows

pub returns-clause-names_sidecar : goal.returns-clause-names_sidecar
returns-clause-names_sidecar c = forbidden.part_names_sidecar
