-- Adding the pairs of the items of a list, one after the other.
use Rattle.std.proofs.Common.{◌≡◌, ℕ, List, ◌++◌}
use Rattle.serde_json.specs.Data.{Items}
use Rattle.dk_hint.specs.Canonical.{pairs_from}

-- as many places were passed as items; what is added, and then those of the items that are left, is the whole
pub record AddsItems (path : List ℕ) (place index : ℕ) (added : List (List ℕ)) (left : Items) (before : List (List ℕ)) (all : Items) : Type 0 where
  pub same_place : place ≡ index
  pub whole : added ++ pairs_from path place left ≡ before ++ pairs_from path 0 all
