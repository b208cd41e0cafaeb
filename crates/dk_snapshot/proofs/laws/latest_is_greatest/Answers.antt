-- The laws are lemmas.
use Rattle.dk_snapshot.proofs.LatestVersion as lemmas
use Rattle.dk_snapshot.proofs.laws.latest_is_greatest.Goals as goal

pub returns-clause-events : goal.returns-clause-events
returns-clause-events c = lemmas.latest_is_greatest

pub returns-clause-listed : goal.returns-clause-listed
returns-clause-listed c = lemmas.listed_is_greatest
