-- What a call answers that makes the file of a checkpoint.
use Rattle.std.specs.Prelude.{◌≡◌, ℕ, ◌<◌, ◌≤◌, ◌-◌, ◌^◌, min, false, List, length, Vec, Some, Result, Ok, Err}
use Rattle.std.specs.List.{list_any}
use Rattle.std.specs.FinMap.{entries}
use Rattle.std.specs.declared.alloc.Global.{Global}
use Rattle.dk_pqmodel.specs.Datum.{Cells}
use Rattle.dk_pqmodel.specs.Weight.{most_bytes, weight}
use Rattle.dk_model.specs.declared.action.Action.{Action}
use Rattle.dk_model.specs.declared.state.TableState.{TableState}
use Rattle.dk_store.specs.Told.{Told}
use Rattle.dk_store.specs.Objects.{content}
use Rattle.dk_engine.specs.declared.limits.Limits.{Limits}
use Rattle.dk_engine.specs.declared.limits.Which.TheVariants.{Object, Rows}
use Rattle.dk_engine.specs.declared.refusal.Refusal.{Refusal}
use Rattle.dk_engine.specs.declared.refusal.Refusal.TheVariants as refusals
use Rattle.dk_engine.specs.OwnFields.{MeansAlone}
use Rattle.dk_lawful.specs.declared.segment.CheckpointRef.TheVariants as refs
use Rattle.dk_lawful.specs.Checkpoints.{CheckpointMeans}
use Rattle.dk_lawful.specs.CheckpointSchema.{written_fields}

-- no deletion vector stands beside a file
abbrev pub HasNoVectors : TableState → Type 0
HasNoVectors state = list_any (λ file. file.1.vector) (entries state.files) ≡ false

-- a weight as it is told: it stands still at the end of its type
abbrev pub told_weight : Cells → ℕ
told_weight rows = min (weight rows) (2 ^ 64 - 1)

-- a file of the rows of a checkpoint, with no more bytes than are promised of them
pub record IsFileOf (rows : Cells) (bytes : List ℕ) : Type 0 where
  pub means : MeansAlone written_fields bytes rows
  pub small : length bytes ≤ most_bytes written_fields rows

-- a file of these rows has so many bytes
abbrev pub HasSize : Cells → ℕ → Type 0
HasSize rows size = (bytes : List ℕ) × IsFileOf rows bytes × (length bytes ≡ size)

-- The rows are weighed before a byte is made, and then the bytes are counted. Nothing else is refused but want of memory.
abbrev pub MakesFile : Limits → Cells → Result (Vec ℕ Global) Refusal → Type 0
MakesFile limits rows (Ok bytes) = (weight rows ≤ limits.rows) × (length bytes.items ≤ limits.object) × IsFileOf rows bytes.items
MakesFile limits rows (Err (refusals.Limit Rows value)) = (limits.rows < weight rows) × (value ≡ told_weight rows)
MakesFile limits rows (Err (refusals.Limit Object value)) = (weight rows ≤ limits.rows) × (limits.object < value) × HasSize rows value
MakesFile limits rows (Err refusals.OutOfMemory) = Unit {0}
MakesFile limits rows (Err refusal) = ⊥

-- Wherever the bytes stand as a checkpoint in one object of the version, it means these actions.
abbrev pub IsClassicOf : List ℕ → ℕ → List Action → Type 0
IsClassicOf bytes version actions = (events : List Told) (path : List ℕ) → content events path ≡ Some bytes → CheckpointMeans events (refs.Classic version path) actions
