use Rattle.std.proofs.Common.{◌≡◌, drop}
use Rattle.std.specs.List.{list_all}
use Rattle.dk_rules.specs.Walks.{stands_behind_own}
use Rattle.dk_rules.proofs.rules.all_stand_behind_own.Given as goal

abbrev pub invariant-loop-action : goal.invariant-loop-action
invariant-loop-action l = list_all stands_behind_own (drop l.action-index l.actions) ≡ list_all stands_behind_own l.actions
