-- What the objects of checkpoints mean (Delta Lake's PROTOCOL.md, "Checkpoints", "V2 Spec", "Sidecar File Information").
use Rattle.std.specs.Prelude.{◌≡◌, ℕ, suc, ℤ, Bool, true, false, ◌&&◌, ◌==◌, ◌⊎◌, List, [], ◌∷◌, ◌++◌, Option, Some, None, option_map, option_and_then, if◌then◌else◌, ◌≤◌}
use Rattle.std.specs.List.{list_any, list_all, filter_map}
use Rattle.std.specs.Str.{is_utf8}
use Rattle.percent_encoding.specs.Percent.{percent_decode}
use Rattle.dk_pqmodel.specs.Datum.{Cells}
use Rattle.dk_pqmodel.specs.FileMeans.{FileMeans}
use Rattle.dk_model.specs.declared.action.Action.{Action}
use Rattle.dk_model.specs.declared.action.Action.TheVariants as action
use Rattle.dk_model.specs.declared.state.TableState.{TableState}
use Rattle.dk_model.specs.CommitText.{commit_of}
use Rattle.dk_store.specs.Told.{Told}
use Rattle.dk_store.specs.Objects.{content}
use Rattle.dk_paths.specs.Places.{Place, Classic, Part, V2, Sidecar, place_of, is_sidecar_name}
use Rattle.dk_lawful.specs.declared.segment.CheckpointRef.{CheckpointRef}
use Rattle.dk_lawful.specs.declared.segment.CheckpointRef.TheVariants as refs
use Rattle.dk_lawful.specs.Present.{Holds}
use Rattle.dk_lawful.specs.CheckpointSchema.{read_fields}
use Rattle.dk_lawful.specs.CheckpointRows.{actions_of_rows}
use Rattle.dk_lawful.specs.Shares.{HasShare}

-- ---- the actions of an object

-- the rows of a Parquet file, read as actions
pub record InParquet (bytes : List ℕ) (actions : List Action) : Type 0 where
  pub rows : Cells
  pub means : FileMeans read_fields bytes rows
  pub read : actions_of_rows rows ≡ Some actions

-- an object in JSON is the text of its actions
abbrev pub HasActions : Bool → List ℕ → List Action → Type 0
HasActions true bytes actions = commit_of bytes ≡ Some actions
HasActions false bytes actions = InParquet bytes actions

-- ---- the sidecars that actions name

-- what follows the last slash
abbrev pub last_name : List ℕ → List ℕ
last_name [] = []
last_name (byte ∷ rest) = if list_any (λ b. b == 47) (byte ∷ rest) then last_name rest else byte ∷ rest

-- a name in the folder of sidecars, if these bytes are one
abbrev pub sidecar_named : List ℕ → Option (List ℕ)
sidecar_named name = if is_utf8 name && is_sidecar_name name then Some name else None

-- the name of the sidecar that a path names: what follows its last slash, with escapes replaced
unfoldable pub sidecar_of_path : List ℕ → Option (List ℕ)
sidecar_of_path path = sidecar_named (percent_decode (last_name path))

-- a name before those after it
abbrev pub with_name : Option (List ℕ) → Option (List (List ℕ)) → Option (List (List ℕ))
with_name name names = option_and_then (λ n. option_map (λ ns. n ∷ ns) names) name

-- the names of the sidecars, in order; none where a path names none
abbrev pub sidecars_of : List Action → Option (List (List ℕ))
sidecars_of [] = Some []
sidecars_of (action.Sidecar reference ∷ actions) = with_name (sidecar_of_path reference.path) (sidecars_of actions)
sidecars_of (_ ∷ actions) = sidecars_of actions

-- ---- an object of a checkpoint

-- what it has: actions of its own, and the names of sidecars
pub record Top : Type 0 where
  pub actions : List Action
  pub sidecars : List (List ℕ)

pub record HasTop (json : Bool) (bytes : List ℕ) (top : Top) : Type 0 where
  pub means : HasActions json bytes top.actions
  pub named : sidecars_of top.actions ≡ Some top.sidecars

-- the versions that are written in a checkpoint of the form V2
abbrev pub marked_version : Action → Option ℕ
marked_version (action.CheckpointMeta meta) = Some meta.version
marked_version _ = None

-- an object with a name of the form V2 has exactly one, that of its name
abbrev pub HasV2Top : ℕ → Bool → List ℕ → Top → Type 0
HasV2Top version json bytes top = HasTop json bytes top × (filter_map marked_version top.actions ≡ version ∷ [])

-- an object by its place
abbrev pub TopMeans : Place → List ℕ → Top → Type 0
TopMeans (Classic version) bytes top = HasTop false bytes top
TopMeans (V2 version id json) bytes top = HasV2Top version json bytes top
TopMeans (Part version part parts) bytes top = HasTop false bytes top
TopMeans _ bytes top = ⊥

-- a sidecar, in Parquet, with actions on files alone
abbrev pub is_file_action : Action → Bool
is_file_action (action.Add file) = true
is_file_action (action.Remove file) = true
is_file_action _ = false

abbrev pub SideMeans : List ℕ → List Action → Type 0
SideMeans bytes actions = InParquet bytes actions × (list_all is_file_action actions ≡ true)

-- a part of a checkpoint, read alone: it names no sidecar, and its actions are its share of the state, up to the horizon
pub record IsShare (bytes : List ℕ) (state : TableState) (part parts : ℕ) (horizon : ℤ) : Type 0 where
  pub actions : List Action
  pub means : InParquet bytes actions
  pub alone : sidecars_of actions ≡ Some []
  pub share : HasShare actions state part parts horizon

-- the place is that of a checkpoint of this version that is one object
abbrev pub IsTopOf : Place → ℕ → Type 0
IsTopOf (Classic v) version = v ≡ version
IsTopOf (V2 v id json) version = v ≡ version
IsTopOf _ version = ⊥

-- the actions of these sidecars, in order; each stands
abbrev pub SidesMean : List Told → List (List ℕ) → List Action → Type 0
SidesMean events [] actions = actions ≡ []
SidesMean events (name ∷ names) actions =
    (bytes : List ℕ) × (own : List Action) × (rest : List Action) × Holds events (Sidecar name) bytes × SideMeans bytes own × SidesMean events names rest × (actions ≡ own ++ rest)

abbrev pub Among : List ℕ → List (List ℕ) → Type 0
Among name [] = ⊥
Among name (first ∷ names) = (name ≡ first) ⊎ Among name names

-- the bytes of a checkpoint's object name the sidecar
abbrev pub NamesSidecar : Place → List ℕ → List ℕ → Type 0
NamesSidecar place bytes name = (top : Top) × TopMeans place bytes top × Among name top.sidecars

-- an object that stands at this place names it
abbrev pub Names : List Told → Place → List ℕ → Type 0
Names events place name = (version : ℕ) × IsTopOf place version × ((bytes : List ℕ) × Holds events place bytes × NamesSidecar place bytes name)

-- ---- a whole checkpoint, by the paths of its objects

-- what the object means that stands at a path, read in this way
abbrev pub ObjectMeans : List Told → (List ℕ → Top → Type 0) → List ℕ → Top → Type 0
ObjectMeans events reads path top = (bytes : List ℕ) × (content events path ≡ Some bytes) × reads bytes top

-- the actions of parts, in order, and the sidecars that they name
abbrev pub PartsMean : List Told → List (List ℕ) → Top → Type 0
PartsMean events [] whole = (whole.actions ≡ []) × (whole.sidecars ≡ [])
PartsMean events (path ∷ paths) whole =
    (own : Top) × (rest : Top) × ObjectMeans events (HasTop false) path own × PartsMean events paths rest
    × (whole.actions ≡ own.actions ++ rest.actions) × (whole.sidecars ≡ own.sidecars ++ rest.sidecars)

abbrev pub ObjectsMean : List Told → CheckpointRef → Top → Type 0
ObjectsMean events (refs.Classic version path) top = ObjectMeans events (HasTop false) path top
ObjectsMean events (refs.Parts version parts paths) top = PartsMean events paths top
ObjectsMean events (refs.V2 version path json) top = ObjectMeans events (HasV2Top version json) path top

-- A checkpoint means the actions of its object, or of its parts from the first on, and then those of each sidecar that they name.
pub record CheckpointMeans (events : List Told) (checkpoint : CheckpointRef) (actions : List Action) : Type 0 where
  pub top : Top
  pub means : ObjectsMean events checkpoint top
  pub sides : List Action
  pub sides_mean : SidesMean events top.sidecars sides
  pub all : actions ≡ top.actions ++ sides

-- ---- the checkpoints of a version

-- the paths are those of the parts of so many that come after the first ones
abbrev pub ArePartPaths : ℕ → ℕ → ℕ → List (List ℕ) → Type 0
ArePartPaths version parts before [] = before ≡ parts
ArePartPaths version parts before (path ∷ paths) = (place_of path ≡ Part version (suc before) parts) × ArePartPaths version parts (suc before) paths

-- it is one of this version, and its paths are those of its objects
abbrev pub IsCheckpointOf : CheckpointRef → ℕ → Type 0
IsCheckpointOf (refs.Classic v path) version = (v ≡ version) × (place_of path ≡ Classic version)
IsCheckpointOf (refs.Parts v parts paths) version = (v ≡ version) × (1 ≤ parts) × ArePartPaths version parts 0 paths
IsCheckpointOf (refs.V2 v path json) version = (v ≡ version) × ((id : ℕ) × (place_of path ≡ V2 version id json))

-- the paths of its objects, in order
abbrev pub object_paths : CheckpointRef → List (List ℕ)
object_paths (refs.Classic version path) = path ∷ []
object_paths (refs.Parts version parts paths) = paths
object_paths (refs.V2 version path json) = path ∷ []

-- an object stands at each of these paths
abbrev pub AllStand : List Told → List (List ℕ) → Type 0
AllStand events [] = Unit {0}
AllStand events (path ∷ paths) = ((bytes : List ℕ) × (content events path ≡ Some bytes)) × AllStand events paths
