use Rattle.std.proofs.Common.{◌≡◌}
use Rattle.dk_model.proofs.Laid.{laid}
use Rattle.dk_model.proofs.copied_state.copied_files.Given as goal

-- what is copied, and then the entries that are left, is the whole
abbrev pub invariant-files : goal.invariant-files
invariant-files l = laid l.copied l.path-iterator ≡ l.files
