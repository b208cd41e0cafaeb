-- Levels that are added to the body of a page.
use Rattle.std.specs.Prelude.{◌≡◌, ℕ, ◌+◌, ◌*◌, ◌≤◌, List, ◌++◌, length}
use Rattle.dk_pqmodel.specs.FilePages.{HoldLevels, IsSized}

-- new is old with the levels at its end
pub record AddsLevels (greatest : ℕ) (levels old new : List ℕ) : Type 0 where
  pub part : List ℕ
  pub runs : List ℕ
  pub added : new ≡ old ++ part
  pub sized : IsSized greatest part runs
  pub held : HoldLevels greatest levels runs
  pub size : length part ≤ 44 + 5 * length levels
