-- What is added to the end of bytes.
use Rattle.std.specs.Prelude.{◌≡◌, ◌≤◌, ℕ, List, ◌++◌, length}

-- new is old with bytes of this form at its end, and no more than so many
pub record AddsBytes (Is : List ℕ → Type 0) (most : ℕ) (old new : List ℕ) : Type 0 where
  pub part : List ℕ
  pub added : new ≡ old ++ part
  pub is : Is part
  pub size : length part ≤ most
