-- Which versions open: those that are kept, where no commit that is needed is missing.
use Rattle.std.specs.Prelude.{ℕ, ℤ, ◌≡◌, ◌≤◌, List, Option, Some, Result, Ok, Err}
use Rattle.dk_store.specs.Told.{Told}
use Rattle.dk_store.specs.Standings.{standing}
use Rattle.dk_lawful.specs.declared.segment.Choice.{Choice}
use Rattle.dk_lawful.specs.Segments.{HasAllCommits, commit_gap}
use Rattle.dk_engine.specs.declared.limits.Limits.{Limits}
use Rattle.dk_engine.specs.declared.refusal.Refusal.{Refusal}
use Rattle.dk_engine.specs.declared.refusal.Refusal.TheVariants.{Missing}
use Rattle.dk_listing.specs.OfEvents.{stands_at, latest}
use Rattle.dk_snapshot.specs.declared.table.Snapshot.{Snapshot}
use Rattle.dk_snapshot.specs.Opens.{Opens}

-- a version that is answered is kept
abbrev pub OpenedIsKept : Type 0
OpenedIsKept = (events : List Told) (limits : Limits) (at : Option ℕ) (choice : Choice) (now : ℤ) (snapshot : Snapshot) → Opens events limits at choice now (Ok snapshot) → HasAllCommits (stands_at events) (standing events) snapshot.version choice

-- one that isn't kept is refused with the path of its first missing commit
abbrev pub NotKeptIsMissing : Type 0
NotKeptIsMissing = (events : List Told) (limits : Limits) (version last : ℕ) (choice : Choice) (now : ℤ) (path : List ℕ) (result : Result Snapshot Refusal) → latest events ≡ Some last → version ≤ last
    → commit_gap (stands_at events) (standing events) version choice ≡ Some path
    → Opens events limits (Some version) choice now result → result ≡ Err (Missing path)
