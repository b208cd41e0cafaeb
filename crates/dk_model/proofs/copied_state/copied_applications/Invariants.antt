use Rattle.std.proofs.Common.{◌≡◌}
use Rattle.dk_model.proofs.Laid.{laid}
use Rattle.dk_model.proofs.copied_state.copied_applications.Given as goal

-- what is copied, and then the entries that are left, is the whole
abbrev pub invariant-applications : goal.invariant-applications
invariant-applications l = laid l.copied l.name-iterator ≡ l.applications
