use Rattle.dk_grammar.proofs.Runs.{first_again, first_length, short_has_none}
use Rattle.dk_grammar.proofs.run_laws.runs_have_one_meaning.Goals as goal

pub returns-clause-one : goal.returns-clause-one
returns-clause-one c = first_again

pub returns-clause-short : goal.returns-clause-short
returns-clause-short c = short_has_none

pub returns-clause-count : goal.returns-clause-count
returns-clause-count c = first_length
