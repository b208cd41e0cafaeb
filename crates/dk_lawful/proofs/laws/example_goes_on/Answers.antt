-- Each list is built on the example.
use Rattle.dk_lawful.proofs.MoreExamples as more
use Rattle.dk_lawful.proofs.laws.example_goes_on.Goals as goal

pub returns-clause-compacting : goal.returns-clause-compacting
returns-clause-compacting c = more.compacting_is_lawful

pub returns-clause-hinting : goal.returns-clause-hinting
returns-clause-hinting c = more.hinting_is_lawful

pub returns-clause-dropping : goal.returns-clause-dropping
returns-clause-dropping c = more.dropping_is_lawful

pub returns-clause-cleaning : goal.returns-clause-cleaning
returns-clause-cleaning c = more.cleaning_is_lawful

pub returns-clause-storing : goal.returns-clause-storing
returns-clause-storing c = more.storing_is_lawful

pub returns-clause-forgetting : goal.returns-clause-forgetting
returns-clause-forgetting c = more.forgetting_is_lawful
