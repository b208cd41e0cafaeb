-- The ids of transactions in the history (Delta Lake's PROTOCOL.md, "Commit Provenance Information").
use Rattle.std.specs.Prelude.{◌≡◌, ℕ, Bool, true, false, List, [], ◌∷◌, ◌++◌, Option, Some, None, slice_get}
use Rattle.std.specs.List.{list_any}
use Rattle.std.specs.Str.{bytes_eq}
use Rattle.dk_model.specs.declared.action.Action.{Action}
use Rattle.dk_model.specs.declared.action.Action.TheVariants as action
use Rattle.dk_store.specs.Told.{Told}
use Rattle.dk_lawful.specs.History.{RatifiedCommit, history, next_version}

-- a commitInfo says the id
abbrev pub says_id : List ℕ → Option (List ℕ) → Bool
says_id id None = false
says_id id (Some said) = bytes_eq id said

abbrev pub says : List ℕ → Action → Bool
says id (action.Info info) = says_id id info.txn_id
says id _ = false

-- the commit has the id
abbrev pub SaysId : List ℕ → RatifiedCommit → Type 0
SaysId id commit = list_any (says id) commit.actions ≡ true

-- that of this version of a history has it
abbrev pub HasId : List RatifiedCommit → ℕ → List ℕ → Type 0
HasId h version id = (commit : RatifiedCommit) × (slice_get h version ≡ Some commit) × SaysId id commit

-- the history has the id at most once, and not at all
abbrev pub StandsOnce : List Told → List ℕ → Type 0
StandsOnce events id = (version other : ℕ) → HasId (history events) version id → HasId (history events) other id → version ≡ other

abbrev pub StandsNowhere : List Told → List ℕ → Type 0
StandsNowhere events id = (version : ℕ) → HasId (history events) version id → ⊥

-- this version has it, and no other
pub record StandsAt (events : List Told) (version : ℕ) (id : List ℕ) : Type 0 where
  pub has : HasId (history events) version id
  pub alone : (other : ℕ) → HasId (history events) other id → other ≡ version

-- the event adds a commit with the id
abbrev pub AddsId : List Told → Told → List ℕ → Type 0
AddsId events event id = (commit : RatifiedCommit) × (history (event ∷ events) ≡ history events ++ commit ∷ []) × SaysId id commit

-- each of the newer events adds a commit with the id only where the history has none
abbrev pub AddOnce : List Told → List Told → List ℕ → Type 0
AddOnce [] events id = Unit {0}
AddOnce (event ∷ newer) events id = (AddsId (newer ++ events) event id → StandsNowhere (newer ++ events) id) × AddOnce newer events id

-- none of them adds one
abbrev pub AddNone : List Told → List Told → List ℕ → Type 0
AddNone [] events id = Unit {0}
AddNone (event ∷ newer) events id = (AddsId (newer ++ events) event id → ⊥) × AddNone newer events id

-- ---- the laws

-- whatever events come, lawful or not: where each adds the id only to a history without it, the id stands at most once
abbrev pub IdsStandOnce : Type 0
IdsStandOnce = (newer events : List Told) (id : List ℕ) → AddOnce newer events id → StandsOnce events id → StandsOnce (newer ++ events) id

-- a commit with the id stays at its version for good
abbrev pub IdsStay : Type 0
IdsStay = (newer events : List Told) (version : ℕ) (id : List ℕ) → HasId (history events) version id → HasId (history (newer ++ events)) version id

-- where no event adds the id, it stands just where it stood
abbrev pub IdsAreNoMore : Type 0
IdsAreNoMore = (newer events : List Told) (version : ℕ) (id : List ℕ) → AddNone newer events id → HasId (history (newer ++ events)) version id → HasId (history events) version id

-- Under an id that stood nowhere a commit that is added to the history stands once, at its version.
abbrev pub AddedStandsAt : Type 0
AddedStandsAt = (events later : List Told) (commit : RatifiedCommit) (id : List ℕ) → StandsNowhere events id → history later ≡ history events ++ commit ∷ []
    → SaysId id commit → StandsAt later (next_version events) id

-- whatever events come then that add no commit with the id, it stands there alone for good
abbrev pub StandsAtForGood : Type 0
StandsAtForGood = (newer events : List Told) (version : ℕ) (id : List ℕ) → AddNone newer events id → StandsAt events version id → StandsAt (newer ++ events) version id
