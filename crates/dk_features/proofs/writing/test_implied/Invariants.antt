use Rattle.std.proofs.Common.{◌≡◌, drop}
use Rattle.std.specs.List.{position_from}
use Rattle.dk_features.specs.InForce.{implied}
use Rattle.dk_features.specs.Support.{is_in_the_way}
use Rattle.dk_features.proofs.writing.test_implied.Given as goal

-- the place among the features that are left is that among all
abbrev pub invariant-places : goal.invariant-places
invariant-places l = position_from (is_in_the_way l.uses_invariants l.protocol) l.place (drop l.place implied) ≡ position_from (is_in_the_way l.uses_invariants l.protocol) 0 implied
