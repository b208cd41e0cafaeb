use Rattle.std.proofs.Common.{◌≡◌, drop}
use Rattle.std.specs.List.{position_from}
use Rattle.dk_features.specs.Support.{is_unwritten}
use Rattle.dk_features.proofs.writing.test_listed.Given as goal

-- the place among the names that are left is that among all
abbrev pub invariant-names : goal.invariant-names
invariant-names l = position_from (is_unwritten l.uses_invariants) l.place (drop l.place l.names) ≡ position_from (is_unwritten l.uses_invariants) 0 l.names
