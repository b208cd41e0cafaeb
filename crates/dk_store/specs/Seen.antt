-- What a store shows of itself, and what a call may do to it.
use Rattle.std.specs.Prelude.{ℕ, ◌≡◌, ◌≤◌, ◌++◌, Bool, true, false, List, Option, Some, None, Result, Ok, Err, IfSome, IsErrOf}
use Rattle.dk_store.specs.declared.event.Put.{Put}
use Rattle.dk_store.specs.declared.event.Put.TheVariants as puts
use Rattle.dk_store.specs.declared.event.Ratify.{Ratify}
use Rattle.dk_store.specs.declared.event.Ratify.TheVariants as ratifies
use Rattle.dk_store.specs.declared.event.StoreError.{StoreError}
use Rattle.dk_store.specs.declared.event.StoreError.TheVariants as errors
use Rattle.dk_store.specs.Causes.{Rose}
use Rattle.dk_store.specs.Told.{Told}

-- a store at one moment: its events, the newest first, where it tells them; how often it has failed; and how often a
-- name or a version was taken already
pub record Seen : Type 0 where
  pub told : Option (List Told)
  pub faults : ℕ
  pub clashes : ℕ

-- a fact about the events of a store that tells them
abbrev pub IfTold : Seen → (List Told → Type 0) → Type 0
IfTold seen fact = IfSome seen.told fact

-- the old events are the last of the new ones; a store tells at both moments or at neither
abbrev pub Grows : Option (List Told) → Option (List Told) → Type 0
Grows None None = Unit {0}
Grows (Some events) (Some later) = (newer : List Told) × (later ≡ newer ++ events)
Grows None (Some later) = ⊥
Grows (Some events) None = ⊥

-- between two moments nothing was written: only the count of faults may be greater
pub record Stays (old new : Seen) : Type 0 where
  pub same : new.told ≡ old.told
  pub clashes_same : new.clashes ≡ old.clashes
  pub later : old.faults ≤ new.faults

-- between two moments events may have come, one or several, and no count fell
pub record Advances (old new : Seen) : Type 0 where
  pub grows : Grows old.told new.told
  pub clashes_later : old.clashes ≤ new.clashes
  pub later : old.faults ≤ new.faults

-- what a reading call may do: nothing is written, and `Failed` comes only where the count of faults rose
pub record StoreReads {T : Type 0} (old new : Seen) (result : Result T StoreError) : Type 0 where
  pub same : new.told ≡ old.told
  pub clashes_same : new.clashes ≡ old.clashes
  pub later : old.faults ≤ new.faults
  pub failed : IsErrOf result errors.Failed → Rose old.faults new.faults

-- a clash is counted, or none is
abbrev pub Clashes : Bool → ℕ → ℕ → Type 0
Clashes true old new = (old ≤ new) × Rose old new
Clashes false old new = new ≡ old

-- that no clash came
abbrev pub no_clash : Bool
no_clash = false

-- whether a put-if-absent found the name taken
abbrev pub is_taken : Result Put StoreError → Bool
is_taken (Ok puts.Made) = false
is_taken (Ok puts.Exists) = true
is_taken (Err e) = false

-- whether a ratification found another version to be the next one
abbrev pub is_lost : Result Ratify StoreError → Bool
is_lost (Ok ratifies.Made) = false
is_lost (Ok (ratifies.Lost next)) = true
is_lost (Err e) = false

-- what a writing call counts: `Failed` comes only where the count of faults rose, and a clash is counted exactly where
-- there was one
pub record StoreWrites {T : Type 0} (clash : Bool) (old new : Seen) (result : Result T StoreError) : Type 0 where
  pub later : old.faults ≤ new.faults
  pub failed : IsErrOf result errors.Failed → Rose old.faults new.faults
  pub clashes : Clashes clash old.clashes new.clashes
