-- The laws are lemmas.
use Rattle.dk_lawful.proofs.MayBeMade as made
use Rattle.dk_lawful.proofs.checkpoint_laws.contents_may_be_made.Goals as goal

pub returns-clause-part : goal.returns-clause-part
returns-clause-part c = made.part_may_be_made

pub returns-clause-classic : goal.returns-clause-classic
returns-clause-classic c = made.classic_may_be_made

pub returns-clause-v2 : goal.returns-clause-v2
returns-clause-v2 c = made.v2_may_be_made
