use Rattle.std.proofs.Common.{◌≡◌, drop}
use Rattle.std.specs.List.{list_any}
use Rattle.dk_conflicts.specs.Conflicts.{names_in}
use Rattle.dk_model.specs.NameSets.{has_name}
use Rattle.dk_conflicts.proofs.claims.has_one.Given as goal

-- whether one of the names that are left is among these tells it of all
abbrev pub invariant-actions : goal.invariant-actions
invariant-actions l = list_any (has_name l.names) (names_in l.topic (drop l.action-index l.winner)) ≡ list_any (has_name l.names) (names_in l.topic l.winner)
