-- What the checkpoint that a segment goes on from is read as, by the events of the store (Delta Lake's PROTOCOL.md, "Checkpoints",
-- "V2 Spec", "Sidecar Files"; Apache Parquet, parquet.thrift).
use Rattle.std.specs.Prelude.{ℕ, ◌≡◌, ◌≤◌, ◌<◌, ◌⊎◌, Bool, true, false, List, [], ◌∷◌, map, Option, Some, None, Result, Ok, Err, IfSome}
use Rattle.std.specs.List.{AllByRecursion}
use Rattle.dk_store.specs.Told.{Told}
use Rattle.dk_store.specs.Objects.{content}
use Rattle.dk_model.specs.declared.action.Action.{Action}
use Rattle.dk_model.specs.CommitText.{reading_of}
use Rattle.dk_pqmodel.specs.Datum.{Cells}
use Rattle.dk_pqmodel.specs.FileMeans.{FileMeans}
use Rattle.dk_lawful.specs.declared.segment.CheckpointRef.{CheckpointRef}
use Rattle.dk_lawful.specs.declared.segment.CheckpointRef.TheVariants as checkpoint
use Rattle.dk_lawful.specs.Checkpoints.{Top, HasTop, HasV2Top, SideMeans, ObjectMeans, ObjectsMean, CheckpointMeans, object_paths}
use Rattle.dk_lawful.specs.CheckpointSchema.{read_fields}
use Rattle.dk_engine.specs.declared.limits.Limits.{Limits}
use Rattle.dk_engine.specs.declared.limits.Which.TheVariants.{Object}
use Rattle.dk_engine.specs.declared.refusal.Refusal.{Refusal}
use Rattle.dk_engine.specs.declared.refusal.Refusal.TheVariants.{Limit, Missing, Damaged}
use Rattle.dk_listing.specs.Sizes.{stored_size}
use Rattle.dk_ckread.specs.Reading.{FileAnswers}
use Rattle.dk_snapshot.specs.Sidecars.{sidecar_path}

-- ---- within the limit

-- the object at the path isn't over the limit
abbrev pub IsWithin : List Told → ℕ → List ℕ → Type 0
IsWithin events limit path = IfSome (stored_size events path) (λ size. size ≤ limit)

abbrev pub AreWithin : List Told → ℕ → List (List ℕ) → Type 0
AreWithin events limit paths = AllByRecursion (IsWithin events limit) paths

-- ---- one object

-- an object of a checkpoint: one in Parquet, whole or a part; one that is named by its version, in JSON or in Parquet; a sidecar
pub data Form : Type 0 where
  Rows : Form
  Named : (version : ℕ) → (json : Bool) → Form
  Side : Form

-- what its bytes mean; a sidecar names no other
abbrev pub FormMeans : Form → List ℕ → Top → Type 0
FormMeans Rows bytes top = HasTop false bytes top
FormMeans (Named version json) bytes top = HasV2Top version json bytes top
FormMeans Side bytes top = SideMeans bytes top.actions × (top.sidecars ≡ [])

abbrev pub MeansNothing : Form → List ℕ → Type 0
MeansNothing form bytes = (top : Top) → FormMeans form bytes top → ⊥

-- lines: the first bad one is named, or they are no such object as a whole
abbrev pub LinesRefused : Form → List ℕ → List ℕ → Result (List Action) ℕ → Refusal → Type 0
LinesRefused form path bytes (Err line) refusal = refusal ≡ Damaged path line
LinesRefused form path bytes (Ok actions) refusal = MeansNothing form bytes × (refusal ≡ Damaged path 0)

-- a file: it is refused by its first fault, or has rows that are no such object as a whole
abbrev pub RowsRefused : Form → List ℕ → List ℕ → Refusal → Type 0
RowsRefused form path bytes refusal =
    FileAnswers path bytes (Err refusal) ⊎ (((rows : Cells) × FileMeans read_fields bytes rows) × MeansNothing form bytes × (refusal ≡ Damaged path 0))

abbrev pub BytesRefused : Form → List ℕ → List ℕ → Refusal → Type 0
BytesRefused (Named version true) path bytes refusal = LinesRefused (Named version true) path bytes (reading_of bytes) refusal
BytesRefused form path bytes refusal = RowsRefused form path bytes refusal

-- an object that is to be read
pub record Piece : Type 0 where
  pub path : List ℕ
  pub form : Form

-- it is within the limit, stands, and means this
abbrev pub IsObjectRead : List Told → ℕ → Piece → Top → Type 0
IsObjectRead events limit piece top = IsWithin events limit piece.path × ObjectMeans events (FormMeans piece.form) piece.path top

-- it is over the limit, or absent, or its bytes are refused: they name what isn't supported, or are damaged
abbrev pub ObjectRefused : List Told → ℕ → Piece → Refusal → Type 0
ObjectRefused events limit piece (Limit Object size) = (stored_size events piece.path ≡ Some size) × (limit < size)
ObjectRefused events limit piece (Missing path) = (path ≡ piece.path) × (content events piece.path ≡ None)
ObjectRefused events limit piece refusal =
    IsWithin events limit piece.path × ((bytes : List ℕ) × (content events piece.path ≡ Some bytes) × BytesRefused piece.form piece.path bytes refusal)

-- ---- objects, one after the other

-- the first that is refused is refused so; all before it are read
abbrev pub FirstRefused : List Told → ℕ → List Piece → Refusal → Type 0
FirstRefused events limit [] refusal = ⊥
FirstRefused events limit (piece ∷ pieces) refusal =
    ObjectRefused events limit piece refusal ⊎ (((top : Top) × IsObjectRead events limit piece top) × FirstRefused events limit pieces refusal)

-- the object of a checkpoint, or its parts from the first on
abbrev pub objects_of : CheckpointRef → List Piece
objects_of (checkpoint.Classic version path) = record { path = path; form = Rows } ∷ []
objects_of (checkpoint.Parts version parts paths) = map (λ path. record { path = path; form = Rows }) paths
objects_of (checkpoint.V2 version path json) = record { path = path; form = Named version json } ∷ []

-- sidecars, by their names
abbrev pub sides_of : List (List ℕ) → List Piece
sides_of names = map (λ name. record { path = sidecar_path name; form = Side }) names

-- ---- a checkpoint

-- it means these actions, and none of its objects and sidecars is over the limit
pub record BaseActions (events : List Told) (limit : ℕ) (base : CheckpointRef) (actions : List Action) : Type 0 where
  pub means : CheckpointMeans events base actions
  pub objects : AreWithin events limit (object_paths base)
  pub sidecars : AreWithin events limit (map sidecar_path means.top.sidecars)

-- its objects are within the limit, and have this
abbrev pub AreObjectsRead : List Told → ℕ → CheckpointRef → Top → Type 0
AreObjectsRead events limit base top = AreWithin events limit (object_paths base) × ObjectsMean events base top

-- the first of its objects that can't be read refuses it, or else the first of the sidecars that they name
abbrev pub BaseRefused : List Told → ℕ → CheckpointRef → Refusal → Type 0
BaseRefused events limit base refusal =
    FirstRefused events limit (objects_of base) refusal ⊎ ((top : Top) × AreObjectsRead events limit base top × FirstRefused events limit (sides_of top.sidecars) refusal)

-- what is read of it; without one there are no actions
abbrev pub BaseIsRead : List Told → Limits → Option CheckpointRef → Result (List Action) Refusal → Type 0
BaseIsRead events limits None read = read ≡ Ok []
BaseIsRead events limits (Some base) (Ok actions) = BaseActions events limits.object base actions
BaseIsRead events limits (Some base) (Err refusal) = BaseRefused events limits.object base refusal
