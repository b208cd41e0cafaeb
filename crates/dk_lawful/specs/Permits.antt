-- Which event may come after which (Delta Lake's PROTOCOL.md, "Delta Log Entries", "Catalog-managed tables", "Checkpoints",
-- "Log Compaction Files", "Last Checkpoint File", "Metadata Cleanup").
use Rattle.std.specs.Prelude.{◌≡◌, ℕ, ℤ, ◌+◌, ◌<◌, ◌≤◌, ◌⊎◌, true, false, List, ◌++◌, take, drop, Some, None, IsNone}
use Rattle.dk_model.specs.declared.action.Action.{Action}
use Rattle.dk_model.specs.CommitText.{commit_of}
use Rattle.dk_store.specs.Told.{Told, Made, Over, Deleted, Ratified, Forgotten}
use Rattle.dk_store.specs.Objects.{object}
use Rattle.dk_store.specs.Standings.{standing}
use Rattle.dk_paths.specs.Places.{Place, Commit_at, Classic, Part, V2, Compacted, Hint, Sidecar, Staged, Other, place_of}
use Rattle.dk_paths.specs.Staged.{staged_name}
use Rattle.dk_lawful.specs.Present.{Holds, Present, IsLastPublished, AtMostPublished, staged_bytes, Complete, HasAbove}
use Rattle.dk_lawful.specs.Managed.{is_managed}
use Rattle.dk_lawful.specs.History.{history, commits_of, table, table_at, next_version}
use Rattle.dk_lawful.specs.Rules.{IsValidNext}
use Rattle.dk_lawful.specs.Agree.{Stands, SumsCommits}
use Rattle.dk_lawful.specs.Checkpoints.{Top, TopMeans, SidesMean, IsShare, NamesSidecar, Names}

-- ---- a commit by file

-- the actions are those of a commit that may come next, by file
pub record IsNextCommit (events : List Told) (version : ℕ) (actions : List Action) : Type 0 where
  pub next : version ≡ next_version events
  pub by_file : is_managed (table events) ≡ false
  pub valid : IsValidNext (commits_of (history events)) actions

-- the bytes are the text of such a commit
abbrev pub AddsCommit : List Told → ℕ → List ℕ → Type 0
AddsCommit events version bytes = (actions : List Action) × (commit_of bytes ≡ Some actions) × IsNextCommit events version actions

-- ---- a ratification, and what follows it

-- the version is the next one of a managed table, and its staged commit of this name stands and may come next
pub record RatifiesCommit (events : List Told) (version : ℕ) (name : List ℕ) : Type 0 where
  pub next : version ≡ next_version events
  pub by_catalogue : is_managed (table events) ≡ true
  pub id : ℕ
  pub is_name : name ≡ staged_name version id
  pub bytes : List ℕ
  pub staged : Holds events (Staged version id) bytes
  pub actions : List Action
  pub means : commit_of bytes ≡ Some actions
  pub valid : IsValidNext (commits_of (history events)) actions

-- the version is one above the last published one, stands ratified, and the bytes are those of its staged commit
pub record Backfills (events : List Told) (version : ℕ) (bytes : List ℕ) : Type 0 where
  pub last : ℕ
  pub published : IsLastPublished events (Some last)
  pub next : version ≡ last + 1
  pub name : List ℕ
  pub stands : standing events version ≡ Some name
  pub staged : staged_bytes events name ≡ Some bytes

-- ---- checkpoints and compacted files

-- the one object of a checkpoint: all sidecars that it names stand, and all its actions stand for the state at its version
pub record MakesTop (events : List Told) (place : Place) (version : ℕ) (bytes : List ℕ) (horizon : ℤ) : Type 0 where
  pub published : AtMostPublished events version
  pub top : Top
  pub means : TopMeans place bytes top
  pub sides : List Action
  pub sides_mean : SidesMean events top.sidecars sides
  pub stands : Stands (top.actions ++ sides) (table_at events version) horizon
  pub named : (name : List ℕ) → NamesSidecar place bytes name → Present events (Sidecar name)

-- a part of a checkpoint has its share of the state, whoever makes the others
pub record MakesPart (events : List Told) (version part parts : ℕ) (bytes : List ℕ) (horizon : ℤ) : Type 0 where
  pub published : AtMostPublished events version
  pub share : IsShare bytes (table_at events version) part parts horizon

-- a compacted file does what its commits do
pub record Compacts (events : List Told) (first last : ℕ) (bytes : List ℕ) : Type 0 where
  pub longer : first < last
  pub published : AtMostPublished events last
  pub actions : List Action
  pub means : commit_of bytes ≡ Some actions
  pub sums : SumsCommits actions (drop first (take (last + 1) (commits_of (history events))))

-- ---- all of them

-- what may be made at a place that is free; sidecars, the hint and paths without a meaning may be made at any time
abbrev pub MayMake : List Told → Place → List ℕ → ℤ → Type 0
MayMake events (Commit_at version) bytes horizon = AddsCommit events version bytes ⊎ Backfills events version bytes
MayMake events (Classic version) bytes horizon = MakesTop events (Classic version) version bytes horizon
MayMake events (V2 version id json) bytes horizon = MakesTop events (V2 version id json) version bytes horizon
MayMake events (Part version part parts) bytes horizon = MakesPart events version part parts bytes horizon
MayMake events (Compacted first last) bytes horizon = Compacts events first last bytes
MayMake events (Staged version id) bytes horizon = next_version events ≤ version
MayMake events (Sidecar name) bytes horizon = Unit {0}
MayMake events Hint bytes horizon = Unit {0}
MayMake events (Other path) bytes horizon = Unit {0}

-- what may be written over
abbrev pub MayOver : Place → Type 0
MayOver Hint = Unit {0}
MayOver (Other path) = Unit {0}
MayOver _ = ⊥

-- What may be deleted: below a complete checkpoint commits that don't stand ratified, checkpoints and compacted files, sidecars that no checkpoint
-- names, and staged commits that aren't ratified or are published.
abbrev pub MayDelete : List Told → Place → Type 0
MayDelete events (Commit_at version) = HasAbove events version × (standing events version ≡ None)
MayDelete events (Classic version) = HasAbove events version
MayDelete events (V2 version id json) = HasAbove events version
MayDelete events (Part version part parts) = HasAbove events version
MayDelete events (Compacted first last) = (checkpoint : ℕ) × (first ≤ checkpoint) × Complete events checkpoint
MayDelete events (Sidecar name) = (place : Place) → Names events place name → ⊥
MayDelete events (Staged version id) = ((v : ℕ) → standing events v ≡ Some (staged_name version id) → ⊥) ⊎ AtMostPublished events version
MayDelete events Hint = Unit {0}
MayDelete events (Other path) = Unit {0}

-- The event may come after these. The horizon is the deletion time up to which a checkpoint may leave tombstones out.
abbrev pub Permits : List Told → Told → ℤ → Type 0
Permits events (Made path bytes stamp) horizon = IsNone (object events path) × MayMake events (place_of path) bytes horizon
Permits events (Over path bytes stamp) horizon = MayOver (place_of path)
Permits events (Deleted path) horizon = MayDelete events (place_of path)
Permits events (Ratified version name) horizon = RatifiesCommit events version name
Permits events (Forgotten upto) horizon = AtMostPublished events upto
