-- What each writing call does to the events of a store, by its answer.
use Rattle.std.specs.Prelude.{ℕ, ℤ, ◌≡◌, ◌≢◌, ◌⊎◌, ◌∷◌, List, Option, Some, None, Result, Ok, Err, IfSome, IsSome, IsNone, is_some, option_map, take, FitsSigned, if◌then◌else◌}
use Rattle.std.specs.Int.{w64}
use Rattle.dk_store.specs.declared.event.Put.{Put}
use Rattle.dk_store.specs.declared.event.Put.TheVariants as puts
use Rattle.dk_store.specs.declared.event.Ratify.{Ratify}
use Rattle.dk_store.specs.declared.event.Ratify.TheVariants as ratifies
use Rattle.dk_store.specs.declared.event.StoreError.{StoreError}
use Rattle.dk_store.specs.declared.event.StoreError.TheVariants as errors
use Rattle.dk_store.specs.Told.{Told, Made, Over, Deleted, Ratified, Forgotten, added}
use Rattle.dk_store.specs.Objects.{object}
use Rattle.dk_store.specs.Standings.{next_ratified}

-- one event Made of the path, with a stamp of the store's own
pub record AddsMade (path bytes : List ℕ) (old new : Option (List Told)) : Type 0 where
  pub stamp : ℤ
  pub whole : FitsSigned w64 stamp
  pub is : new ≡ added (Made path bytes stamp) old

-- one event Over of the path, with a stamp of the store's own
pub record AddsOver (path bytes : List ℕ) (old new : Option (List Told)) : Type 0 where
  pub stamp : ℤ
  pub whole : FitsSigned w64 stamp
  pub is : new ≡ added (Over path bytes stamp) old

-- an object is made where none was; after a failure it may have been
abbrev pub PutsNew : List ℕ → List ℕ → Option (List Told) → Result Put StoreError → Option (List Told) → Type 0
PutsNew path bytes old (Ok puts.Made) new = IfSome old (λ es. IsNone (object es path)) × AddsMade path bytes old new
PutsNew path bytes old (Ok puts.Exists) new = IfSome old (λ es. IsSome (object es path)) × (new ≡ old)
PutsNew path bytes old (Err errors.Failed) new = (new ≡ old) ⊎ (IfSome old (λ es. IsNone (object es path)) × AddsMade path bytes old new)
PutsNew path bytes old (Err errors.OutOfMemory) new = new ≡ old

-- an object is put in place of what was there; after a failure a beginning of it may stand there, or nothing
abbrev pub PutsOver : List ℕ → List ℕ → Option (List Told) → Result (Unit {0}) StoreError → Option (List Told) → Type 0
PutsOver path bytes old (Ok u) new = AddsOver path bytes old new
PutsOver path bytes old (Err errors.Failed) new = (new ≡ old) ⊎ (((kept : ℕ) × AddsOver path (take kept bytes) old new) ⊎ (new ≡ added (Deleted path) old))
PutsOver path bytes old (Err errors.OutOfMemory) new = new ≡ old

-- the events after an object that is present was deleted; of one that is absent no event tells
abbrev pub deleted : List ℕ → List Told → List Told
deleted path events = if is_some (object events path) then Deleted path ∷ events else events

-- an object is deleted where it is present; after a failure it may have been
abbrev pub Deletes : List ℕ → Option (List Told) → Result (Unit {0}) StoreError → Option (List Told) → Type 0
Deletes path old (Ok u) new = new ≡ option_map (deleted path) old
Deletes path old (Err errors.Failed) new = (new ≡ old) ⊎ (new ≡ option_map (deleted path) old)
Deletes path old (Err errors.OutOfMemory) new = new ≡ old

-- a version may be ratified where none was before, or where it is the next one
abbrev pub MayRatify : ℕ → Option ℕ → Type 0
MayRatify version None = Unit {0}
MayRatify version (Some next) = version ≡ next

-- another version is the next one
abbrev pub IsBeaten : ℕ → ℕ → Option ℕ → Type 0
IsBeaten version next None = ⊥
IsBeaten version next (Some n) = (next ≡ n) × (version ≢ n)

-- a version is ratified where it may be; after a failure it may have been
abbrev pub Ratifies : ℕ → List ℕ → Option (List Told) → Result Ratify StoreError → Option (List Told) → Type 0
Ratifies version name old (Ok ratifies.Made) new = IfSome old (λ es. MayRatify version (next_ratified es)) × (new ≡ added (Ratified version name) old)
Ratifies version name old (Ok (ratifies.Lost next)) new = IfSome old (λ es. IsBeaten version next (next_ratified es)) × (new ≡ old)
Ratifies version name old (Err errors.Failed) new = (new ≡ old) ⊎ (IfSome old (λ es. MayRatify version (next_ratified es)) × (new ≡ added (Ratified version name) old))
Ratifies version name old (Err errors.OutOfMemory) new = new ≡ old

-- the ratifications up to a version stand no longer; after a failure that may be so
abbrev pub Forgets : ℕ → Option (List Told) → Result (Unit {0}) StoreError → Option (List Told) → Type 0
Forgets upto old (Ok u) new = new ≡ added (Forgotten upto) old
Forgets upto old (Err errors.Failed) new = (new ≡ old) ⊎ (new ≡ added (Forgotten upto) old)
Forgets upto old (Err errors.OutOfMemory) new = new ≡ old
