-- What a writing call leaves of the log and its history.
use Rattle.std.specs.Prelude.{◌≡◌, ◌⊎◌, ℤ, ◌≤ℤ◌, List, [], ◌∷◌, ◌++◌, Option, Some, None, Result, Ok, Err}
use Rattle.dk_model.specs.declared.action.Action.{Action}
use Rattle.dk_store.specs.declared.event.Put.{Put}
use Rattle.dk_store.specs.declared.event.Put.TheVariants as puts
use Rattle.dk_store.specs.declared.event.StoreError.{StoreError}
use Rattle.dk_store.specs.declared.event.StoreError.TheVariants as errors
use Rattle.dk_store.specs.Told.{Told}
use Rattle.dk_lawful.specs.History.{history, by_file}
use Rattle.dk_lawful.specs.Lawful.{Lawful}

-- a fact of the events before a call and after it, where they are told; a store tells at both times or at neither
abbrev pub IfBoth : Option (List Told) → Option (List Told) → (List Told → List Told → Type 0) → Type 0
IfBoth None None fact = Unit {0}
IfBoth (Some events) (Some later) fact = fact events later
IfBoth None (Some later) fact = ⊥
IfBoth (Some events) None fact = ⊥

-- the old events are the last of the new ones, and what was lawful is lawful
pub record StaysLawful (events later : List Told) : Type 0 where
  pub newer : List Told
  pub is : later ≡ newer ++ events
  pub lawful : (horizon : ℤ) → Lawful events horizon → Lawful later horizon

-- what a call promises that writes to the log, and works for no cut
abbrev pub KeepsLawful : Option (List Told) → Option (List Told) → Type 0
KeepsLawful old new = IfBoth old new StaysLawful

-- the horizon isn't below the cut of tombstones that a call works for, if it works for one
abbrev pub ReachesCut : Option ℤ → ℤ → Type 0
ReachesCut None horizon = Unit {0}
ReachesCut (Some cut) horizon = cut ≤ℤ horizon

-- The same for any call: what was lawful up to a horizon is lawful up to each that is at least that horizon and the cut.
pub record StaysLawfulPast (cut : Option ℤ) (events later : List Told) : Type 0 where
  pub newer : List Told
  pub is : later ≡ newer ++ events
  pub lawful : (horizon greater : ℤ) → horizon ≤ℤ greater → ReachesCut cut greater → Lawful events horizon → Lawful later greater

abbrev pub KeepsLawfulPast : Option ℤ → Option (List Told) → Option (List Told) → Type 0
KeepsLawfulPast cut old new = IfBoth old new (StaysLawfulPast cut)

-- the history as it was, and with one commit more
abbrev pub IsSameHistory : List Told → List Told → Type 0
IsSameHistory events later = history later ≡ history events

abbrev pub HasOneMore : List Action → List Told → List Told → Type 0
HasOneMore actions events later = history later ≡ history events ++ by_file actions ∷ []

-- what the answer of a put of the next commit says of the history; after a failure the commit may be there
abbrev pub HistoryAfterPut : List Action → Result Put StoreError → List Told → List Told → Type 0
HistoryAfterPut actions (Ok puts.Made) events later = HasOneMore actions events later
HistoryAfterPut actions (Ok puts.Exists) events later = IsSameHistory events later
HistoryAfterPut actions (Err errors.Failed) events later = IsSameHistory events later ⊎ HasOneMore actions events later
HistoryAfterPut actions (Err errors.OutOfMemory) events later = IsSameHistory events later
