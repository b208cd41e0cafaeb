use Rattle.std.proofs.Common.{◌≡◌, drop}
use Rattle.std.specs.List.{list_all}
use Rattle.dk_lawful.specs.Rules.{is_plain_add}
use Rattle.dk_rules.proofs.rules.keeps_adds.Given as goal

abbrev pub invariant-loop-action : goal.invariant-loop-action
invariant-loop-action l = list_all is_plain_add (drop l.action-index l.actions) ≡ list_all is_plain_add l.actions
