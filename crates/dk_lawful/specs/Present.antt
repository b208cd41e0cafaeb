-- What stands at the places of a log (Delta Lake's PROTOCOL.md, "Delta Log Entries", "Checkpoints").
use Rattle.std.specs.Prelude.{◌≡◌, ℕ, ◌+◌, ◌<◌, ◌≤◌, Bool, ◌⊎◌, List, ◌++◌, Option, Some, None}
use Rattle.dk_store.specs.Told.{Told}
use Rattle.dk_store.specs.Objects.{content}
use Rattle.dk_store.specs.Standings.{standing}
use Rattle.dk_paths.specs.Places.{Place, Commit_at, Classic, Part, V2, Staged, place_of, log_front, staged_front}
use Rattle.dk_paths.specs.Staged.{staged_name}

-- an object with these bytes stands at the place: at the one path that is this place
pub record Holds (events : List Told) (place : Place) (bytes : List ℕ) : Type 0 where
  pub path : List ℕ
  pub is_place : place_of path ≡ place
  pub has_bytes : content events path ≡ Some bytes

-- some object stands at the place
abbrev pub Present : List Told → Place → Type 0
Present events place = (bytes : List ℕ) × Holds events place bytes

-- a version is published where its commit stands in the log; the last of these, or none
abbrev pub IsLastPublished : List Told → Option ℕ → Type 0
IsLastPublished events None = (version : ℕ) → Present events (Commit_at version) → ⊥
IsLastPublished events (Some last) = Present events (Commit_at last) × ((version : ℕ) → Present events (Commit_at version) → version ≤ last)

-- how many versions there are up to the last one
abbrev pub versions_up_to : Option ℕ → ℕ
versions_up_to None = 0
versions_up_to (Some last) = last + 1

-- this version or a later one is published
abbrev pub AtMostPublished : List Told → ℕ → Type 0
AtMostPublished events version = (last : ℕ) × (version ≤ last) × Present events (Commit_at last)

-- the bytes of a staged commit, by its name in the folder of staged commits
abbrev pub staged_bytes : List Told → List ℕ → Option (List ℕ)
staged_bytes events name = content events (log_front ++ (staged_front ++ name))

-- the staged commit stands that was ratified for the version
abbrev pub HasStaged : List Told → ℕ → Type 0
HasStaged events version = (id : ℕ) × (standing events version ≡ Some (staged_name version id)) × Present events (Staged version id)

-- the version's commit can be read, in the log or staged
abbrev pub Available : List Told → ℕ → Type 0
Available events version = Present events (Commit_at version) ⊎ HasStaged events version

-- A checkpoint of this version is complete: its one object stands, or all of its parts do. Sidecars don't count.
abbrev pub Complete : List Told → ℕ → Type 0
Complete events version = Present events (Classic version)
    ⊎ (((id : ℕ) × ((json : Bool) × Present events (V2 version id json)))
    ⊎ ((parts : ℕ) × (1 ≤ parts) × ((part : ℕ) → 1 ≤ part → part ≤ parts → Present events (Part version part parts))))

-- a complete checkpoint above the version
abbrev pub HasAbove : List Told → ℕ → Type 0
HasAbove events version = (checkpoint : ℕ) × (version < checkpoint) × Complete events checkpoint
