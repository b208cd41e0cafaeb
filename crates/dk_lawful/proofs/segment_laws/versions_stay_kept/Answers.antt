-- The laws are lemmas.
use Rattle.dk_lawful.proofs.KeptVersions.{base_stands, each_from_floor_is_kept}
use Rattle.dk_lawful.proofs.Openable.{cleanup_leaves_floor, others_leave_floor, plain_is_by_commits}
use Rattle.dk_lawful.proofs.SamePlaces.{same_places_read_alike}
use Rattle.dk_lawful.proofs.StandingPlaces.{standing_places_stand}
use Rattle.dk_lawful.proofs.segment_laws.versions_stay_kept.Goals as goal

pub returns-clause-kept : goal.returns-clause-kept
returns-clause-kept c = each_from_floor_is_kept

pub returns-clause-base : goal.returns-clause-base
returns-clause-base c = base_stands

pub returns-clause-cleanup : goal.returns-clause-cleanup
returns-clause-cleanup c = cleanup_leaves_floor

pub returns-clause-others : goal.returns-clause-others
returns-clause-others c = others_leave_floor

pub returns-clause-plain : goal.returns-clause-plain
returns-clause-plain c = plain_is_by_commits

pub returns-clause-places : goal.returns-clause-places
returns-clause-places c = standing_places_stand

pub returns-clause-alike : goal.returns-clause-alike
returns-clause-alike c = same_places_read_alike
