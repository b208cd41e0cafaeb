-- The laws are lemmas.
use Rattle.dk_lawful.proofs.Structure.{history_grows, one_at_a_time, commits_stay}
use Rattle.dk_lawful.proofs.Ways.{each_came_its_way}
use Rattle.dk_lawful.proofs.laws.history_only_grows.Goals as goal

pub returns-clause-grows : goal.returns-clause-grows
returns-clause-grows c = history_grows

pub returns-clause-one : goal.returns-clause-one
returns-clause-one c = one_at_a_time

pub returns-clause-stays : goal.returns-clause-stays
returns-clause-stays c = commits_stay

pub returns-clause-ways : goal.returns-clause-ways
returns-clause-ways c = each_came_its_way
