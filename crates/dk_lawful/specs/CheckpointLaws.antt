-- The laws of checkpoints, as statements.
use Rattle.std.specs.Prelude.{◌≡◌, ℕ, ℤ, ◌<◌, ◌≤◌, List}
use Rattle.dk_model.specs.declared.action.Action.{Action}
use Rattle.dk_store.specs.Told.{Told}
use Rattle.dk_paths.specs.Places.{Part}
use Rattle.dk_lawful.specs.declared.segment.CheckpointRef.{CheckpointRef}
use Rattle.dk_lawful.specs.Present.{Present}
use Rattle.dk_lawful.specs.History.{next_version, table_at}
use Rattle.dk_lawful.specs.Agree.{Stands}
use Rattle.dk_lawful.specs.Checkpoints.{CheckpointMeans, IsCheckpointOf, object_paths, AllStand}
use Rattle.dk_lawful.specs.Segments.{parts_ref}
use Rattle.dk_lawful.specs.Lawful.{Lawful}

-- all parts stand
abbrev pub HasAllParts : List Told → ℕ → ℕ → Type 0
HasAllParts events version parts = (1 ≤ parts) × ((part : ℕ) → 1 ≤ part → part ≤ parts → Present events (Part version part parts))

-- the checkpoint means something, and that stands for the state at the version
abbrev pub StandsFor : List Told → ℤ → CheckpointRef → ℕ → Type 0
StandsFor events horizon checkpoint version = (actions : List Action) × CheckpointMeans events checkpoint actions × Stands actions (table_at events version) horizon

-- A checkpoint whose objects stand stands for the state at its version: as one object with its sidecars, or as parts.
abbrev pub CheckpointsStand : Type 0
CheckpointsStand = (events : List Told) (horizon : ℤ) → Lawful events horizon → (checkpoint : CheckpointRef) (version : ℕ) → IsCheckpointOf checkpoint version
    → AllStand events (object_paths checkpoint) → StandsFor events horizon checkpoint version

-- Parts that make a whole do, whichever writers made them, at whatever moments.
abbrev pub PartsStand : Type 0
PartsStand = (events : List Told) (horizon : ℤ) → Lawful events horizon → (version parts : ℕ) → HasAllParts events version parts
    → StandsFor events horizon (parts_ref version parts) version

-- Where a Parquet file means at most one list of rows, which the laws on what is read take as a premise here, a checkpoint means at most
-- one list of actions,
abbrev pub CheckpointMeansOne : Type 0
CheckpointMeansOne = (events : List Told) (checkpoint : CheckpointRef) (actions others : List Action)
    → CheckpointMeans events checkpoint actions → CheckpointMeans events checkpoint others → actions ≡ others

-- and so whatever is read of a checkpoint of a lawful log stands for the state at its version, which is one of the history.
abbrev pub ReadCheckpointsStand : Type 0
ReadCheckpointsStand = (events : List Told) (horizon : ℤ) → Lawful events horizon → (checkpoint : CheckpointRef) (version : ℕ) (actions : List Action)
    → IsCheckpointOf checkpoint version → CheckpointMeans events checkpoint actions → (version < next_version events) × Stands actions (table_at events version) horizon
