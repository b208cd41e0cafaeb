use Rattle.std.proofs.Common.{◌≡◌, drop}
use Rattle.std.specs.List.{list_any}
use Rattle.dk_lawful.specs.Rules.{is_domain}
use Rattle.dk_rules.proofs.rules.have_domain.Given as goal

abbrev pub invariant-loop-action : goal.invariant-loop-action
invariant-loop-action l = list_any is_domain (drop l.action-index l.actions) ≡ list_any is_domain l.actions
