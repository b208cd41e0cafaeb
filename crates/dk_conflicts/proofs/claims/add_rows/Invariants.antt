use Rattle.std.proofs.Common.{◌≡◌, drop}
use Rattle.std.specs.List.{list_any}
use Rattle.dk_model.specs.Rows.{adds_rows}
use Rattle.dk_conflicts.proofs.claims.add_rows.Given as goal

-- whether one of the actions that are left is such tells it of all
abbrev pub invariant-actions : goal.invariant-actions
invariant-actions l = list_any adds_rows (drop l.action-index l.actions) ≡ list_any adds_rows l.actions
