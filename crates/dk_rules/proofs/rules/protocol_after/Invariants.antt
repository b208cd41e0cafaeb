use Rattle.std.proofs.Common.{◌≡◌, drop, option_map}
use Rattle.dk_rules.specs.Walks.{last_protocol}
use Rattle.dk_rules.proofs.rules.protocol_after.Given as goal

abbrev pub invariant-loop-action : goal.invariant-loop-action
invariant-loop-action l = last_protocol (option_map (λ x. x.now) l.after) (drop l.action-index l.actions) ≡ last_protocol l.before.protocol l.actions
