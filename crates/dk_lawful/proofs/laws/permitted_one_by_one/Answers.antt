-- Both laws are lemmas.
use Rattle.dk_lawful.proofs.Structure.{prefixes_are_lawful, greater_horizon_is_lawful}
use Rattle.dk_lawful.proofs.laws.permitted_one_by_one.Goals as goal

pub returns-clause-prefix : goal.returns-clause-prefix
returns-clause-prefix c = prefixes_are_lawful

pub returns-clause-horizon : goal.returns-clause-horizon
returns-clause-horizon c = greater_horizon_is_lawful
