-- The laws are lemmas.
use Rattle.dk_snapshot.proofs.Opens as lemmas
use Rattle.dk_snapshot.proofs.laws.opens_as_one.Goals as goal

pub returns-clause-some : goal.returns-clause-some
returns-clause-some c = lemmas.opens_as_some

pub returns-clause-one : goal.returns-clause-one
returns-clause-one c = lemmas.opens_as_one
