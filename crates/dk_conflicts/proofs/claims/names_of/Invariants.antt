use Rattle.std.proofs.Common.{drop}
use Rattle.dk_conflicts.specs.Conflicts.{names_in}
use Rattle.dk_model.proofs.NameSets.{Gathers}
use Rattle.dk_conflicts.proofs.claims.names_of.Given as goal

abbrev pub invariant-actions : goal.invariant-actions
invariant-actions l = Gathers l.names (names_in l.topic (drop l.action-index l.actions)) (names_in l.topic l.actions)
