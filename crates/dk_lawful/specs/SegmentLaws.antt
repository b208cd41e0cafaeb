-- What is read of a version, whatever it is read from: a checkpoint or none, and then commits and compacted files, one behind another
-- (Delta Lake's PROTOCOL.md, "Action Reconciliation", "Log Compaction Files", "Checkpoints", "Catalog-managed tables").
use Rattle.std.specs.Prelude.{◌≡◌, ℕ, ℤ, ◌+◌, ◌<◌, ◌⊎◌, List, [], ◌∷◌, Option, Some, None}
use Rattle.dk_model.specs.declared.action.Action.{Action}
use Rattle.dk_model.specs.declared.state.TableState.{TableState}
use Rattle.dk_model.specs.CommitText.{commit_of}
use Rattle.dk_model.specs.State.{empty_state, steps, steps_of_all}
use Rattle.dk_store.specs.Told.{Told}
use Rattle.dk_store.specs.Objects.{content}
use Rattle.dk_store.specs.Standings.{standing}
use Rattle.dk_paths.specs.Places.{Commit_at, Compacted, Staged, place_of}
use Rattle.dk_paths.specs.Staged.{staged_name}
use Rattle.dk_lawful.specs.declared.segment.CheckpointRef.{CheckpointRef}
use Rattle.dk_lawful.specs.declared.segment.Step.{Step}
use Rattle.dk_lawful.specs.declared.segment.Step.TheVariants as step
use Rattle.dk_lawful.specs.History.{next_version, table_at}
use Rattle.dk_lawful.specs.Agree.{Agree}
use Rattle.dk_lawful.specs.Checkpoints.{CheckpointMeans, IsCheckpointOf}
use Rattle.dk_lawful.specs.Lawful.{Lawful}

-- ---- one step

-- the path is that of the version's commit: in the log, or staged where it stands ratified under this name
abbrev pub IsCommitPath : List Told → ℕ → List ℕ → Type 0
IsCommitPath events version path = (place_of path ≡ Commit_at version) ⊎ ((id : ℕ) × (standing events version ≡ Some (staged_name version id)) × (place_of path ≡ Staged version id))

abbrev pub IsStepPath : List Told → Step → Type 0
IsStepPath events (step.Commit version path) = IsCommitPath events version path
IsStepPath events (step.Compacted first last path) = place_of path ≡ Compacted first last

abbrev pub path_of_step : Step → List ℕ
path_of_step (step.Commit version path) = path
path_of_step (step.Compacted first last path) = path

-- its object stands, and has these bytes
abbrev pub StepHolds : List Told → Step → List ℕ → Type 0
StepHolds events s bytes = IsStepPath events s × (content events (path_of_step s) ≡ Some bytes)

-- and means these actions
abbrev pub StepMeans : List Told → Step → List Action → Type 0
StepMeans events s actions = (bytes : List ℕ) × StepHolds events s bytes × (commit_of bytes ≡ Some actions)

-- ---- all of them

-- the steps follow one another, from a version on up to before another
abbrev pub GoOn : ℕ → List Step → ℕ → Type 0
GoOn next [] end = next ≡ end
GoOn next (step.Commit version path ∷ later) end = (version ≡ next) × GoOn (version + 1) later end
GoOn next (step.Compacted first last path ∷ later) end = (first ≡ next) × GoOn (last + 1) later end

-- what each of them means, in order
abbrev pub StepsMean : List Told → List Step → List (List Action) → Type 0
StepsMean events [] read = read ≡ []
StepsMean events (s ∷ later) read = (own : List Action) × (rest : List (List Action)) × StepMeans events s own × StepsMean events later rest × (read ≡ own ∷ rest)

-- ---- what they go on from

-- a checkpoint means these actions, and the steps go on with the next version; without one there are none, and they go on with version 0
abbrev pub BaseMeans : List Told → Option CheckpointRef → ℕ → List Action → Type 0
BaseMeans events None next actions = (next ≡ 0) × (actions ≡ [])
BaseMeans events (Some checkpoint) next actions = (version : ℕ) × IsCheckpointOf checkpoint version × CheckpointMeans events checkpoint actions × (next ≡ version + 1)

-- ---- a version

-- the state is read from these: the actions of the base, and then those of the steps up to the version
pub record ReadFrom (events : List Told) (base : Option CheckpointRef) (walked : List Step) (version : ℕ) (state : TableState) : Type 0 where
  pub next : ℕ
  pub actions : List Action
  pub base_means : BaseMeans events base next actions
  pub go_on : GoOn next walked (version + 1)
  pub read : List (List Action)
  pub steps_mean : StepsMean events walked read
  pub leads : state ≡ steps_of_all (steps empty_state actions) read

-- ---- the laws

-- Of a lawful log whatever a version is read from leads to the state of the history there, but for expired tombstones, and the version
-- is one of the history;
abbrev pub ReadAgrees : Type 0
ReadAgrees = (events : List Told) (horizon : ℤ) → Lawful events horizon → (base : Option CheckpointRef) (walked : List Step) (version : ℕ) (state : TableState)
    → ReadFrom events base walked version state → (version < next_version events) × Agree state (table_at events version) horizon

-- without a checkpoint to exactly that state.
abbrev pub ReadWithoutBase : Type 0
ReadWithoutBase = (events : List Told) (horizon : ℤ) → Lawful events horizon → (walked : List Step) (version : ℕ) (state : TableState)
    → ReadFrom events None walked version state → (version < next_version events) × (state ≡ table_at events version)

-- What stands of a step means something.
abbrev pub StandingStepMeans : Type 0
StandingStepMeans = (events : List Told) (horizon : ℤ) → Lawful events horizon → (s : Step) (bytes : List ℕ) → StepHolds events s bytes → (actions : List Action) × (commit_of bytes ≡ Some actions)
