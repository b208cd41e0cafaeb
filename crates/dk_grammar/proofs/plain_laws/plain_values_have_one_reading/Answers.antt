use Rattle.dk_grammar.proofs.Plain.{plain_again, flags_again}
use Rattle.dk_grammar.proofs.plain_laws.plain_values_have_one_reading.Goals as goal

pub returns-clause-values : goal.returns-clause-values
returns-clause-values c = plain_again

pub returns-clause-flags : goal.returns-clause-flags
returns-clause-flags c = flags_again
