-- What a commit did to the events of the store and to the history, by its answer.
use Rattle.std.specs.Prelude.{◌≡◌, ◌⊎◌, ℕ, ℤ, ◌+◌, ◌-◌, ◌^◌, ◌≤◌, Bool, true, false, List, ◌∷◌, Option, Some, None, Result, Ok, Err, IsSome, IsNone, min}
use Rattle.dk_store.specs.Told.{Told, Ratified}
use Rattle.dk_store.specs.Causes.{Rose}
use Rattle.dk_store.specs.Objects.{object}
use Rattle.dk_store.specs.Writing.{AddsMade}
use Rattle.dk_model.specs.declared.action.Action.{Action}
use Rattle.dk_paths.specs.Names.{commit_path}
use Rattle.dk_paths.specs.Places.{Place, Commit_at, Staged, place_of}
use Rattle.dk_paths.specs.Staged.{staged_name}
use Rattle.dk_engine.specs.declared.refusal.Refusal.{Refusal}
use Rattle.dk_engine.specs.declared.refusal.Refusal.TheVariants as refusals
use Rattle.dk_lawful.specs.History.{Way, By_file, By_catalogue, commits_of, history, next_version}
use Rattle.dk_lawful.specs.Lawful.{Lawful}
use Rattle.dk_lawful.specs.Present.{Holds}
use Rattle.dk_lawful.specs.Permits.{IsNextCommit}
use Rattle.dk_lawful.specs.Kept.{IsSameHistory, HasOneMore}
use Rattle.dk_lawful.specs.Transacted.{transacted}
use Rattle.dk_paths.specs.Numbers.{id_text}
use Rattle.dk_txn.specs.declared.commit.Committed.{Committed}
use Rattle.dk_txn.specs.Attempt.{Writing, written_path}

-- the one event Made of the version's path with that text, where nothing stood
pub record AddsFile (version : ℕ) (text : List ℕ) (events : List Told) (later : Option (List Told)) : Type 0 where
  pub free : IsNone (object events (commit_path version))
  pub made : AddsMade (commit_path version) text (Some events) later

-- A staged commit of the version with that text stands, the transaction's own from before, or made now where nothing stood; and the catalogue ratified it.
pub record AddsRatified (version : ℕ) (text : List ℕ) (events : List Told) (later : Option (List Told)) : Type 0 where
  pub drawn : ℕ
  pub staged : List Told
  pub made : (staged ≡ events) ⊎ (IsNone (object events (written_path By_catalogue version drawn)) × AddsMade (written_path By_catalogue version drawn) text (Some events) (Some staged))
  pub stands : Holds staged (Staged version drawn) text
  pub ratified : later ≡ Some (Ratified version (staged_name version drawn) ∷ staged)

abbrev pub AddsBy : Way → ℕ → List ℕ → List Told → Option (List Told) → Type 0
AddsBy By_file version text events later = AddsFile version text events later
AddsBy By_catalogue version text events later = AddsRatified version text events later

-- the commit was added, by the way by which the table goes on
abbrev pub AddsOwnCommit : Writing → List Told → Option (List Told) → Type 0
AddsOwnCommit writing events later = AddsBy writing.way writing.version writing.text events later

-- what is meant was written
abbrev pub WritesMeant : Result Writing Refusal → List Told → ℕ → Option (List Told) → Type 0
WritesMeant meant events version later = (writing : Writing) × (meant ≡ Ok writing) × (writing.version ≡ version) × AddsOwnCommit writing events later

-- That the path was taken, over told events, where nobody comes in between: never that of a commit by file, as nothing stands at the path of the
-- version that comes next; a staged path where an object stands there already, and nothing is added.
abbrev pub TakenBy : Way → ℕ → List ℕ → List Told → Option (List Told) → Type 0
TakenBy By_file version path events later = ⊥
TakenBy By_catalogue version path events later = (drawn : ℕ) × (path ≡ written_path By_catalogue version drawn) × IsSome (object events path) × (later ≡ Some events)

-- the path that what is meant is written to was taken
abbrev pub FindsTaken : Result Writing Refusal → List ℕ → List Told → Option (List Told) → Type 0
FindsTaken meant path events later = (writing : Writing) × (meant ≡ Ok writing) × TakenBy writing.way writing.version path events later

-- A failed store may have taken what is meant. Any other refusal is the meaning's and adds nothing, but that the path was taken.
abbrev pub CommitRefuses : Refusal → Result Writing Refusal → List Told → Option (List Told) → Type 0
CommitRefuses refusals.Store meant events later = (later ≡ Some events) ⊎ ((version : ℕ) × WritesMeant meant events version later)
CommitRefuses refusals.OutOfMemory meant events later = later ≡ Some events
CommitRefuses (refusals.Taken path) meant events later = FindsTaken meant path events later
CommitRefuses refusal meant events later = (meant ≡ Err refusal) × (later ≡ Some events)

-- what a commit did to the events that were told, by what is meant over them
abbrev pub Commits : Result Writing Refusal → List Told → Result Committed Refusal → Option (List Told) → Type 0
Commits meant events (Ok committed) later = WritesMeant meant events committed.version later
Commits meant events (Err refusal) later = CommitRefuses refusal meant events later

-- ---- clashes

-- a count is greater by two than before, or stands at its type's end
abbrev pub RoseTwice : ℕ → ℕ → Type 0
RoseTwice before now = min (before + 2) (2 ^ 64 - 1) ≤ now

-- whether it was answered that the path was taken
abbrev pub was_taken : Result Committed Refusal → Bool
was_taken (Err (refusals.Taken path)) = true
was_taken result = false

-- One attempt: after a clash it is answered that the path of a commit was taken, and nothing else is; without one nothing says so.
abbrev pub CountsClash : Result Committed Refusal → ℕ → ℕ → Type 0
CountsClash (Err (refusals.Taken path)) before now = Rose before now × ((version : ℕ) × (place_of path ≡ Commit_at version))
CountsClash result before now = now ≡ before

-- a staged path is taken at one clash: it is of the id that was drawn for the call, if one was
abbrev pub StagedClashes : Option ℕ → ℕ → ℕ → ℕ → Type 0
StagedClashes None uuid before now = ⊥
StagedClashes (Some drawn) uuid before now = (uuid ≡ drawn) × Rose before now

-- How many clashes it takes until a call answers that a path was taken, by that path: a commit's own is tried twice, a staged one once, and no other is
-- written to.
abbrev pub ClashesAt : Option ℕ → Place → ℕ → ℕ → Type 0
ClashesAt drawn (Commit_at version) before now = RoseTwice before now
ClashesAt drawn (Staged version uuid) before now = StagedClashes drawn uuid before now
ClashesAt drawn _ before now = ⊥

-- for that refusal, over every store, told or not
abbrev pub TakenClashes : Option ℕ → ℕ → ℕ → Refusal → Type 0
TakenClashes drawn before now (refusals.Taken path) = ClashesAt drawn (place_of path) before now
TakenClashes drawn before now _ = Unit {0}

-- ---- the history

-- With Ok the history has this commit more, at the version that was answered. After a failure of the store it may have it, and after any other refusal it is as it was.
abbrev pub HistoryAfterRefusal : Refusal → List Action → List Told → List Told → Type 0
HistoryAfterRefusal refusals.Store commit events later = IsSameHistory events later ⊎ HasOneMore commit events later
HistoryAfterRefusal _ commit events later = IsSameHistory events later

abbrev pub HistoryAfterCommit : List Action → Result Committed Refusal → List Told → List Told → Type 0
HistoryAfterCommit commit (Ok committed) events later = (committed.version ≡ next_version events) × HasOneMore commit events later
HistoryAfterCommit commit (Err refusal) events later = HistoryAfterRefusal refusal commit events later

abbrev pub SaysHistory : List Action → Result Committed Refusal → List Told → List Told → Type 0
SaysHistory commit result events later = (horizon : ℤ) → Lawful events horizon → HistoryAfterCommit commit result events later

-- the same of the commit that the law of the log has a transaction of this id make of the actions put, at that moment and after the history there
abbrev pub SaysTransacted : ℤ → ℕ → List Action → Result Committed Refusal → List Told → List Told → Type 0
SaysTransacted now id put result events later = SaysHistory (transacted (commits_of (history events)) now (id_text id) put) result events later

-- on a lawful log the commit may come next, as this version
abbrev pub ComesNext : ℕ → List Action → List Told → Type 0
ComesNext version commit events = (horizon : ℤ) → Lawful events horizon → IsNextCommit events version commit
