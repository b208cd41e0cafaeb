-- The laws are lemmas.
use Rattle.dk_lawful.proofs.Stays.{needed_stays, kept_from_floor, last_is_from_floor, floor_is_upward, sidecars_stay, files_stay, published_stays, complete_is_published}
use Rattle.dk_lawful.proofs.laws.needed_stays.Goals as goal

pub returns-clause-needed : goal.returns-clause-needed
returns-clause-needed c = needed_stays

pub returns-clause-kept : goal.returns-clause-kept
returns-clause-kept c = kept_from_floor

pub returns-clause-last : goal.returns-clause-last
returns-clause-last c = last_is_from_floor

pub returns-clause-upward : goal.returns-clause-upward
returns-clause-upward c = floor_is_upward

pub returns-clause-sidecars : goal.returns-clause-sidecars
returns-clause-sidecars c = sidecars_stay

pub returns-clause-files : goal.returns-clause-files
returns-clause-files c = files_stay

pub returns-clause-published : goal.returns-clause-published
returns-clause-published c = published_stays

pub returns-clause-complete : goal.returns-clause-complete
returns-clause-complete c = complete_is_published
