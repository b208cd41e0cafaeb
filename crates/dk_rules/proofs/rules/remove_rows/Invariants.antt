use Rattle.std.proofs.Common.{◌≡◌, drop}
use Rattle.std.specs.List.{list_any}
use Rattle.dk_model.specs.Rows.{removes_rows}
use Rattle.dk_rules.proofs.rules.remove_rows.Given as goal

abbrev pub invariant-loop-action : goal.invariant-loop-action
invariant-loop-action l = list_any removes_rows (drop l.action-index l.actions) ≡ list_any removes_rows l.actions
