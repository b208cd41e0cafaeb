-- Each is computed.
use Rattle.dk_lawful.proofs.Example as example
use Rattle.dk_lawful.proofs.laws.example_histories.Goals as goal

pub returns-clause-gap : goal.returns-clause-gap
returns-clause-gap c = example.gap_adds

pub returns-clause-unreadable : goal.returns-clause-unreadable
returns-clause-unreadable c = example.unreadable_adds

pub returns-clause-staged : goal.returns-clause-staged
returns-clause-staged c = example.staged

pub returns-clause-ratified : goal.returns-clause-ratified
returns-clause-ratified c = example.ratified

pub returns-clause-by_file : goal.returns-clause-by_file
returns-clause-by_file c = example.by_file_adds
