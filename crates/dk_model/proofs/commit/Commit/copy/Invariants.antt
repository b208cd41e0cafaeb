use Rattle.std.proofs.Common.{◌≡◌, take}
use Rattle.dk_model.proofs.commit.Commit.copy.Given as goal

abbrev pub invariant-actions : goal.invariant-actions
invariant-actions l = l.actions.items ≡ take l.action-index l.action-items
