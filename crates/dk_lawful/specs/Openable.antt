-- Which versions can be opened, over events (Delta Lake's PROTOCOL.md, "Checkpoints", "Log Compaction Files", "Metadata Cleanup").
use Rattle.std.specs.Prelude.{◌≡◌, ℕ, ℤ, max, ◌<◌, ◌≤◌, Bool, true, false, is_some, List, [], ◌∷◌, ◌++◌, map, filter, Option, Some, None}
use Rattle.dk_store.specs.Told.{Told, Made, Over, Deleted, Ratified, Forgotten}
use Rattle.dk_store.specs.Objects.{object}
use Rattle.dk_store.specs.Standings.{standing}
use Rattle.dk_paths.specs.Places.{Place, Commit_at, Classic, Part, V2, Compacted, Hint, Sidecar, Staged, Other, place_of}
use Rattle.dk_lawful.specs.declared.segment.Checkpoints.{Checkpoints}
use Rattle.dk_lawful.specs.declared.segment.Checkpoints.TheVariants.{No, Newest}
use Rattle.dk_lawful.specs.declared.segment.Choice.{Choice}
use Rattle.dk_lawful.specs.Present.{Present, Complete}
use Rattle.dk_lawful.specs.History.{next_version}
use Rattle.dk_lawful.specs.Lawful.{Lawful}
use Rattle.dk_lawful.specs.Floor.{FromFloor}
use Rattle.dk_lawful.specs.declared.segment.CheckpointRef.{CheckpointRef}
use Rattle.dk_lawful.specs.Checkpoints.{Top, Among, ObjectsMean, IsCheckpointOf, object_paths, AllStand}
use Rattle.dk_lawful.specs.Segments.{is_among, version_of, base_of, segment_of, first_gap, HasNoGap, commit_segment, commit_gap}

-- ---- what stands

-- the paths that were written
abbrev pub written_paths : List Told → List (List ℕ)
written_paths [] = []
written_paths (Made path bytes stamp ∷ events) = path ∷ written_paths events
written_paths (Over path bytes stamp ∷ events) = path ∷ written_paths events
written_paths (Deleted path ∷ events) = written_paths events
written_paths (Ratified version name ∷ events) = written_paths events
written_paths (Forgotten upto ∷ events) = written_paths events

-- the places of those at which an object stands
abbrev pub stands : List Told → List ℕ → Bool
stands events path = is_some (object events path)

abbrev pub standing_places : List Told → List Place
standing_places events = map place_of (filter (stands events) (written_paths events))

-- ---- a version that can be opened

-- the checkpoint names the sidecar
abbrev pub IsNamedBy : List Told → CheckpointRef → List ℕ → Type 0
IsNamedBy events checkpoint name = (top : Top) × ObjectsMean events checkpoint top × Among name top.sidecars

abbrev pub HasSidecars : List Told → Option CheckpointRef → Type 0
HasSidecars events None = Unit {0}
HasSidecars events (Some checkpoint) = (name : List ℕ) → IsNamedBy events checkpoint name → Present events (Sidecar name)

-- no commit is missing of what the version is read from, and each sidecar that its checkpoint names stands
pub record IsKept (events : List Told) (version : ℕ) (choice : Choice) : Type 0 where
  pub no_gap : HasNoGap (standing_places events) (standing events) version choice
  pub sidecars : HasSidecars events (base_of (standing_places events) choice.checkpoints version)

-- ---- the laws

-- On a lawful log each version of the history from the floor on is kept, for every choice with the newest checkpoint.
abbrev pub EachFromFloorIsKept : Type 0
EachFromFloorIsKept = (events : List Told) (horizon : ℤ) (version : ℕ) (choice : Choice) → Lawful events horizon → version < next_version events → FromFloor events version
    → choice.checkpoints ≡ Newest → IsKept events version choice

-- What is chosen is a checkpoint of a version that is allowed, by the paths of its objects, which stand.
abbrev pub BaseStands : Type 0
BaseStands = (events : List Told) (allowed : Checkpoints) (asked : ℕ) (checkpoint : CheckpointRef) → base_of (standing_places events) allowed asked ≡ Some checkpoint
    → IsCheckpointOf checkpoint (version_of checkpoint) × (version_of checkpoint ≤ asked) × AllStand events (object_paths checkpoint)

-- Where no checkpoint and no compacted file is chosen, a version is read from its commits alone.
abbrev pub PlainIsByCommits : Type 0
PlainIsByCommits = (places : List Place) (ratified : ℕ → Option (List ℕ)) (version : ℕ) (choice : Choice) → choice.checkpoints ≡ No → choice.compacted ≡ false
    → (segment_of places ratified version choice ≡ commit_segment (is_among places) ratified version choice)
    × (first_gap places ratified version choice ≡ commit_gap (is_among places) ratified version choice)

-- A version is read from objects at these places. Two lists that have the same of them, in whatever order, give the same segment and gap, so
-- that a listing of what stands gives those of the events.
abbrev pub IsReadFrom : Place → Type 0
IsReadFrom (Commit_at version) = Unit {0}
IsReadFrom (Staged version id) = Unit {0}
IsReadFrom (Classic version) = Unit {0}
IsReadFrom (Part version part parts) = Unit {0}
IsReadFrom (V2 version id json) = Unit {0}
IsReadFrom (Compacted first last) = Unit {0}
IsReadFrom Hint = ⊥
IsReadFrom (Sidecar name) = ⊥
IsReadFrom (Other path) = ⊥

abbrev pub SamePlacesReadAlike : Type 0
SamePlacesReadAlike = (places others : List Place) (ratified : ℕ → Option (List ℕ)) (version : ℕ) (choice : Choice)
    → ((place : Place) → IsReadFrom place → is_among places place ≡ is_among others place)
    → (segment_of places ratified version choice ≡ segment_of others ratified version choice) × (first_gap places ratified version choice ≡ first_gap others ratified version choice)

-- the places of what stands are those at which an object stands
abbrev pub StandingPlacesStand : Type 0
StandingPlacesStand = (events : List Told) (place : Place) → (is_among (standing_places events) place ≡ true → Present events place)
    × (Present events place → is_among (standing_places events) place ≡ true)

-- ---- cleanups

-- what a cleanup with this cut deletes
abbrev pub GoesBelow : Place → ℕ → Type 0
GoesBelow (Commit_at version) cut = version < cut
GoesBelow (Classic version) cut = version < cut
GoesBelow (Part version part parts) cut = version < cut
GoesBelow (V2 version id json) cut = version < cut
GoesBelow (Compacted first last) cut = first ≤ cut
GoesBelow (Staged version id) cut = Unit {0}
GoesBelow (Sidecar name) cut = Unit {0}
GoesBelow Hint cut = Unit {0}
GoesBelow (Other path) cut = Unit {0}

-- these events are of a cleanup with this cut: deletions below it, and that ratifications are forgotten
abbrev pub CleansBelow : List Told → ℕ → Type 0
CleansBelow [] cut = Unit {0}
CleansBelow (Deleted path ∷ newer) cut = GoesBelow (place_of path) cut × CleansBelow newer cut
CleansBelow (Forgotten upto ∷ newer) cut = CleansBelow newer cut
CleansBelow (Made path bytes stamp ∷ newer) cut = ⊥
CleansBelow (Over path bytes stamp ∷ newer) cut = ⊥
CleansBelow (Ratified version name ∷ newer) cut = ⊥

-- A cleanup whose cut has a complete checkpoint leaves a floor of at most the greater of the floor before and its cut: what was from the
-- floor on and is from the cut on, is still from the floor on.
abbrev pub CleanupLeavesFloor : Type 0
CleanupLeavesFloor = (newer events : List Told) (floor cut : ℕ) → CleansBelow newer cut → Complete events cut → FromFloor events floor
    → FromFloor (newer ++ events) (max floor cut)

-- an object goes that no version is read from: the hint, a staged commit or a sidecar that isn't needed, or one without a meaning
abbrev pub IsNeedless : Place → Type 0
IsNeedless (Staged version id) = Unit {0}
IsNeedless (Sidecar name) = Unit {0}
IsNeedless Hint = Unit {0}
IsNeedless (Other path) = Unit {0}
IsNeedless _ = ⊥

-- events that take no commit, checkpoint or compacted file away leave the floor
abbrev pub TakesNothing : Told → Type 0
TakesNothing (Deleted path) = IsNeedless (place_of path)
TakesNothing _ = Unit {0}

abbrev pub TakeNothing : List Told → Type 0
TakeNothing [] = Unit {0}
TakeNothing (event ∷ newer) = TakesNothing event × TakeNothing newer

abbrev pub OthersLeaveFloor : Type 0
OthersLeaveFloor = (newer events : List Told) (version : ℕ) → TakeNothing newer → FromFloor events version → FromFloor (newer ++ events) version
