use Rattle.std.proofs.Common.{◌≡◌, drop}
use Rattle.std.specs.List.{list_any}
use Rattle.dk_conflicts.specs.Conflicts.{is_protocol}
use Rattle.dk_conflicts.proofs.claims.has_protocol.Given as goal

-- whether one of the actions that are left is such tells it of all
abbrev pub invariant-actions : goal.invariant-actions
invariant-actions l = list_any is_protocol (drop l.action-index l.actions) ≡ list_any is_protocol l.actions
