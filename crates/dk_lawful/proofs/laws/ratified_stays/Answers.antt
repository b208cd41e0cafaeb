-- The laws are lemmas.
use Rattle.dk_lawful.proofs.Management.{management_stays}
use Rattle.dk_lawful.proofs.Stays.{ratified_is_managed, ratified_stays, unpublished_is_staged}
use Rattle.dk_lawful.proofs.NextRatified.{next_is_ratified_next}
use Rattle.dk_lawful.proofs.Joining.{files_up_to_join, ratified_is_above_join}
use Rattle.dk_lawful.proofs.laws.ratified_stays.Goals as goal

pub returns-clause-managed : goal.returns-clause-managed
returns-clause-managed c = ratified_is_managed

pub returns-clause-available : goal.returns-clause-available
returns-clause-available c = ratified_stays

pub returns-clause-unpublished : goal.returns-clause-unpublished
returns-clause-unpublished c = unpublished_is_staged

pub returns-clause-management : goal.returns-clause-management
returns-clause-management c = management_stays

pub returns-clause-next : goal.returns-clause-next
returns-clause-next c = next_is_ratified_next

pub returns-clause-files : goal.returns-clause-files
returns-clause-files c = files_up_to_join

pub returns-clause-above : goal.returns-clause-above
returns-clause-above c = ratified_is_above_join
