-- Both are computed.
use Rattle.dk_lawful.proofs.Example as example
use Rattle.dk_lawful.proofs.laws.example_is_lawful.Goals as goal

pub returns-clause-lawful : goal.returns-clause-lawful
returns-clause-lawful c = example.example_is_lawful

pub returns-clause-history : goal.returns-clause-history
returns-clause-history c = example.example_history
