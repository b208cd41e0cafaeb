-- The laws are lemmas.
use Rattle.dk_lawful.proofs.HeadRules.{rules_by_heads, agreeing_have_same_rules}
use Rattle.dk_lawful.proofs.Management.{features_stay}
use Rattle.dk_lawful.proofs.SoFar.{written_has_neither, rules_so_far, read_so_far}
use Rattle.dk_lawful.proofs.Transacted.{transacted_plainly}
use Rattle.dk_lawful.proofs.Joining.{each_is_valid}
use Rattle.dk_lawful.proofs.laws.rules_of_a_commit.Goals as goal

pub returns-clause-heads : goal.returns-clause-heads
returns-clause-heads c = rules_by_heads

pub returns-clause-features : goal.returns-clause-features
returns-clause-features c = features_stay

pub returns-clause-agreeing : goal.returns-clause-agreeing
returns-clause-agreeing c = agreeing_have_same_rules

pub returns-clause-neither : goal.returns-clause-neither
returns-clause-neither c = written_has_neither

pub returns-clause-so_far : goal.returns-clause-so_far
returns-clause-so_far c = rules_so_far

pub returns-clause-read : goal.returns-clause-read
returns-clause-read c = read_so_far

pub returns-clause-plainly : goal.returns-clause-plainly
returns-clause-plainly c = transacted_plainly

pub returns-clause-each : goal.returns-clause-each
returns-clause-each c = each_is_valid
