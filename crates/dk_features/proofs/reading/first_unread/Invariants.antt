use Rattle.std.proofs.Common.{◌≡◌, drop}
use Rattle.std.specs.List.{position_from}
use Rattle.dk_features.specs.Support.{is_unread}
use Rattle.dk_features.proofs.reading.first_unread.Given as goal

-- the place among the names that are left is that among all
abbrev pub invariant-names : goal.invariant-names
invariant-names l = position_from is_unread l.place (drop l.place l.names) ≡ position_from is_unread 0 l.names
