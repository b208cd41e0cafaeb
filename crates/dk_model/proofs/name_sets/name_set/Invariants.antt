use Rattle.std.proofs.Common.{drop}
use Rattle.dk_model.proofs.NameSets.{Gathers}
use Rattle.dk_model.proofs.name_sets.name_set.Given as goal

abbrev pub invariant-list : goal.invariant-list
invariant-list l = Gathers l.names (drop l.name-index l.list) l.list
