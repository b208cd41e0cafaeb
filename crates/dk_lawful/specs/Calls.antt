-- Each writing call of a store whose event is permitted keeps a lawful log lawful, whatever it answers and wherever it was stopped.
use Rattle.std.specs.Prelude.{ℕ, ℤ, ◌≤ℤ◌, List, Option, None, Result, IfSome}
use Rattle.dk_store.specs.declared.event.Put.{Put}
use Rattle.dk_store.specs.declared.event.Ratify.{Ratify}
use Rattle.dk_store.specs.declared.event.StoreError.{StoreError}
use Rattle.dk_store.specs.Told.{Told}
use Rattle.dk_store.specs.Writing.{PutsNew, PutsOver, Deletes, Ratifies, Forgets}
use Rattle.dk_paths.specs.Places.{place_of}
use Rattle.dk_lawful.specs.Present.{AtMostPublished}
use Rattle.dk_lawful.specs.Permits.{MayMake, MayOver, MayDelete, RatifiesCommit}
use Rattle.dk_lawful.specs.Lawful.{Lawful}
use Rattle.dk_lawful.specs.Kept.{ReachesCut, KeepsLawful, KeepsLawfulPast}

-- What is owed on a lawful log, where the store tells its events: up to each horizon that is at least the log's and the cut of what the call
-- works for.
abbrev pub IfLawful : Option ℤ → Option (List Told) → (List Told → ℤ → Type 0) → Type 0
IfLawful cut old fact = IfSome old (λ events. (horizon greater : ℤ) → horizon ≤ℤ greater → ReachesCut cut greater → Lawful events horizon → fact events greater)

abbrev pub PutNewKeepsLawful : Type 0
PutNewKeepsLawful = (cut : Option ℤ) (path bytes : List ℕ) (old new : Option (List Told)) (result : Result Put StoreError)
    → IfLawful cut old (λ events horizon. MayMake events (place_of path) bytes horizon) → PutsNew path bytes old result new → KeepsLawfulPast cut old new

abbrev pub PutOverKeepsLawful : Type 0
PutOverKeepsLawful = (cut : Option ℤ) (path bytes : List ℕ) (old new : Option (List Told)) (result : Result (Unit {0}) StoreError)
    → MayOver (place_of path) → PutsOver path bytes old result new → KeepsLawfulPast cut old new

abbrev pub DeleteKeepsLawful : Type 0
DeleteKeepsLawful = (cut : Option ℤ) (path : List ℕ) (old new : Option (List Told)) (result : Result (Unit {0}) StoreError)
    → IfLawful cut old (λ events horizon. MayDelete events (place_of path)) → Deletes path old result new → KeepsLawfulPast cut old new

abbrev pub RatifyKeepsLawful : Type 0
RatifyKeepsLawful = (cut : Option ℤ) (version : ℕ) (name : List ℕ) (old new : Option (List Told)) (result : Result Ratify StoreError)
    → IfLawful cut old (λ events horizon. RatifiesCommit events version name) → Ratifies version name old result new → KeepsLawfulPast cut old new

abbrev pub ForgetKeepsLawful : Type 0
ForgetKeepsLawful = (cut : Option ℤ) (upto : ℕ) (old new : Option (List Told)) (result : Result (Unit {0}) StoreError)
    → IfLawful cut old (λ events horizon. AtMostPublished events upto) → Forgets upto old result new → KeepsLawfulPast cut old new

-- A call that works for no cut leaves what was lawful lawful up to the same horizon, and what does so does so past each cut.
abbrev pub NoCutIsSame : Type 0
NoCutIsSame = (old new : Option (List Told)) → KeepsLawfulPast None old new → KeepsLawful old new

abbrev pub SameIsPastEach : Type 0
SameIsPastEach = (cut : Option ℤ) (old new : Option (List Told)) → KeepsLawful old new → KeepsLawfulPast cut old new

-- Calls one after another: what each works for reaches up to the greatest of their cuts.
abbrev pub KeepsLawfulOnwards : Type 0
KeepsLawfulOnwards = (cut : Option ℤ) (old between new : Option (List Told)) → KeepsLawfulPast cut old between → KeepsLawfulPast cut between new → KeepsLawfulPast cut old new
