-- What reading a checkpoint in one object answers (Delta Lake's PROTOCOL.md, "Checkpoints"; Apache Parquet, parquet.thrift).
use Rattle.std.specs.Prelude.{◌≡◌, ℕ, ◌⊎◌, Bool, true, false, nat_lt, List, Option, Some, None, Result, Ok, Err, IfErr}
use Rattle.std.specs.List.{list_any}
use Rattle.dk_model.specs.declared.action.Action.{Action}
use Rattle.dk_model.specs.declared.action.Action.TheVariants as action
use Rattle.dk_store.specs.Told.{Told}
use Rattle.dk_store.specs.Objects.{content}
use Rattle.dk_pqmodel.specs.Datum.{Cells}
use Rattle.dk_pqmodel.specs.Faults.{IsRefused}
use Rattle.dk_pqmodel.specs.FileMeans.{FileMeans}
use Rattle.dk_pqmodel.specs.Reads.{IsBroken}
use Rattle.dk_pqmodel.specs.declared.fault.PqFault.{PqFault}
use Rattle.dk_pqmodel.specs.declared.fault.PqFault.TheVariants as faults
use Rattle.dk_lawful.specs.CheckpointRows.{actions_of_rows}
use Rattle.dk_lawful.specs.CheckpointSchema.{read_fields}
use Rattle.dk_lawful.specs.Checkpoints.{InParquet}
use Rattle.dk_engine.specs.Answers.{AnswersBy}
use Rattle.dk_engine.specs.declared.limits.Which.TheVariants.{Object}
use Rattle.dk_engine.specs.declared.refusal.Refusal.{Refusal}
use Rattle.dk_engine.specs.declared.refusal.Refusal.TheVariants as refusals
use Rattle.dk_listing.specs.Sizes.{stored_size}
use Rattle.dk_ckread.specs.Names.{codec_name, encoding_name}

-- ---- why a file gives no rows

-- the file is refused by this fault, which is the first that applies; want of memory is none of the file's
abbrev pub FileRefused : List ℕ → PqFault → Type 0
FileRefused bytes faults.OutOfMemory = ⊥
FileRefused bytes faults.Broken = IsBroken read_fields bytes
FileRefused bytes fault = IsRefused read_fields bytes fault

-- as a refusal says it of the object at a path
abbrev pub refusal_by : List ℕ → PqFault → Refusal
refusal_by path (faults.Compressed column codec) = refusals.Unsupported (codec_name codec)
refusal_by path (faults.Encoding column code) = refusals.Unsupported (encoding_name code)
refusal_by path faults.OutOfMemory = refusals.OutOfMemory
refusal_by path fault = refusals.Damaged path 0

abbrev pub FileAnswers : List ℕ → List ℕ → Result Cells Refusal → Type 0
FileAnswers path bytes (Ok rows) = FileMeans read_fields bytes rows
FileAnswers path bytes (Err refusal) = (fault : PqFault) × FileRefused bytes fault × (refusal ≡ refusal_by path fault)

-- ---- why rows give no actions

abbrev pub is_sidecar : Action → Bool
is_sidecar (action.Sidecar reference) = true
is_sidecar _ = false

-- some row has an action's key and means none, or an action names a sidecar
abbrev pub AreNoActions : Cells → Type 0
AreNoActions rows = (actions_of_rows rows ≡ None) ⊎ ((actions : List Action) × (actions_of_rows rows ≡ Some actions) × (list_any is_sidecar actions ≡ true))

abbrev pub RowsAnswer : List ℕ → Cells → Result (List Action) Refusal → Type 0
RowsAnswer path rows (Ok actions) = (actions_of_rows rows ≡ Some actions) × (list_any is_sidecar actions ≡ false)
RowsAnswer path rows (Err refusal) = AreNoActions rows × (refusal ≡ refusals.Damaged path 0)

-- ---- what an object answers

-- The actions of its rows; the first fault of the file; or that it is damaged, where its rows are no such actions.
abbrev pub ObjectAnswers : List ℕ → List ℕ → Result (List Action) Refusal → Type 0
ObjectAnswers path bytes (Ok actions) = InParquet bytes actions × (list_any is_sidecar actions ≡ false)
ObjectAnswers path bytes (Err refusal) =
    FileAnswers path bytes (Err refusal) ⊎ ((rows : Cells) × FileMeans read_fields bytes rows × RowsAnswer path rows (Err refusal))

-- where it is there
abbrev pub FoundAnswers : List ℕ → Option (List ℕ) → Result (List Action) Refusal → Type 0
FoundAnswers path None answer = answer ≡ Err (refusals.Missing path)
FoundAnswers path (Some bytes) answer = ObjectAnswers path bytes answer

-- where its size isn't over the limit, which is looked at first
abbrev pub UnlessOver : Bool → ℕ → (Result (List Action) Refusal → Type 0) → Result (List Action) Refusal → Type 0
UnlessOver true size Means answer = answer ≡ Err (refusals.Limit Object size)
UnlessOver false size Means answer = Means answer

abbrev pub IfFits : ℕ → Option ℕ → (Result (List Action) Refusal → Type 0) → Result (List Action) Refusal → Type 0
IfFits limit None Means answer = Means answer
IfFits limit (Some size) Means answer = UnlessOver (nat_lt limit size) size Means answer

-- the checkpoint in one object that stands at a path
abbrev pub ClassicAnswers : List Told → ℕ → List ℕ → Result (List Action) Refusal → Type 0
ClassicAnswers events limit path answer = IfFits limit (stored_size events path) (FoundAnswers path (content events path)) answer

-- ---- which refusals there are

abbrev pub ReadCheckpointRefuses : Refusal → Type 0
ReadCheckpointRefuses refusals.Store = Unit {0}
ReadCheckpointRefuses (refusals.Missing path) = Unit {0}
ReadCheckpointRefuses (refusals.Unsupported name) = Unit {0}
ReadCheckpointRefuses (refusals.Damaged path place) = Unit {0}
ReadCheckpointRefuses (refusals.Limit which value) = Unit {0}
ReadCheckpointRefuses refusals.OutOfMemory = Unit {0}
ReadCheckpointRefuses _ = ⊥

-- ---- what is read of an object that was got

-- It is what is meant, with the refusals of reading a checkpoint. The store isn't asked, so it refuses nothing.
pub record ReadsGot {X Y : Type 0} (view : X → Y) (result : Result X Refusal) (means : Result Y Refusal → Type 0) : Type 0 where
  pub meant : AnswersBy view result means
  pub store : result ≡ Err refusals.Store → ⊥
  pub refusals : IfErr result ReadCheckpointRefuses
