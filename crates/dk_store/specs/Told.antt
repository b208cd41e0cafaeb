-- What a store tells of itself, as plain data: paths as texts, bytes as lists.
use Rattle.std.specs.Prelude.{ℕ, ℤ, List, ◌∷◌, Option, option_map}

-- one write that the store has taken
pub data Told : Type 0 where
  Made : (path bytes : List ℕ) → ℤ → Told
  Over : (path bytes : List ℕ) → ℤ → Told
  Deleted : (path : List ℕ) → Told
  Ratified : ℕ → (name : List ℕ) → Told
  Forgotten : ℕ → Told

-- an object as it stands
pub record Stored : Type 0 where
  pub bytes : List ℕ
  pub stamp : ℤ

-- an object as it is listed
pub record Listed : Type 0 where
  pub name : List ℕ
  pub size : ℕ
  pub stamp : ℤ

-- the events of a store that tells them, and one more: the newest stands first
abbrev pub added : Told → Option (List Told) → Option (List Told)
added event told = option_map (λ events. event ∷ events) told
