-- The laws are lemmas.
use Rattle.dk_segment.proofs.Standing as lemmas
use Rattle.dk_segment.proofs.laws.events_choose_alike.Goals as goal

pub returns-clause-listing : goal.returns-clause-listing
returns-clause-listing c = lemmas.listing_chooses_alike

pub returns-clause-plain : goal.returns-clause-plain
returns-clause-plain c = lemmas.plain_chooses_commits
