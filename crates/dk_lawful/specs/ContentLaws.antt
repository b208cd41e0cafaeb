-- The laws of what is written of a checkpoint, as statements.
use Rattle.std.specs.Prelude.{◌≡◌, ℕ, zero, suc, ℤ, Bool, true, ◌≤◌, ◌≤ℤ◌, List, [], ◌∷◌, ◌++◌, Some, length, map}
use Rattle.std.specs.List.{filter_map, list_all}
use Rattle.dk_model.specs.declared.action.SidecarRef.{SidecarRef}
use Rattle.dk_model.specs.declared.action.Action.{Action}
use Rattle.dk_model.specs.declared.action.Action.TheVariants as action
use Rattle.dk_model.specs.declared.state.TableState.{TableState}
use Rattle.dk_model.specs.WellKept.{IsWellKept}
use Rattle.dk_store.specs.Told.{Told}
use Rattle.dk_paths.specs.Places.{Classic, Part, V2}
use Rattle.dk_lawful.specs.Present.{AtMostPublished}
use Rattle.dk_lawful.specs.History.{table_at}
use Rattle.dk_lawful.specs.Agree.{Agree, Stands}
use Rattle.dk_lawful.specs.Shares.{HasShare}
use Rattle.dk_lawful.specs.Checkpoints.{InParquet, HasActions, sidecars_of, marked_version, is_file_action, SidesMean}
use Rattle.dk_lawful.specs.Contents.{classic_content, part_content, sidecar_content, v2_content}
use Rattle.dk_lawful.specs.Permits.{MayMake}

-- a checkpoint in one object by the version's name has all of the state, but tombstones up to the cut
abbrev pub ClassicStands : Type 0
ClassicStands = (state : TableState) (version : ℕ) (cut : ℤ) → IsWellKept state → Stands (classic_content state version cut) state cut

-- each part has its share, and names no sidecar
abbrev pub PartHasShare : Type 0
PartHasShare = (state : TableState) (cut : ℤ) (part parts : ℕ) → IsWellKept state → 1 ≤ part → part ≤ parts
    → HasShare (part_content state cut part parts) state part parts cut × (sidecars_of (part_content state cut part parts) ≡ Some [])

-- what the sidecars have, up to one of so many
abbrev pub sidecars_content : TableState → ℤ → ℕ → ℕ → List Action
sidecars_content state cut zero count = []
sidecars_content state cut (suc before) count = sidecars_content state cut before count ++ sidecar_content state cut (suc before) count

-- a checkpoint of the form V2 has with its sidecars all of the state, and says its version once; a sidecar has file actions alone
abbrev pub V2Stands : Type 0
V2Stands = (state : TableState) (version : ℕ) (cut : ℤ) (references : List SidecarRef) → IsWellKept state
    → Stands (v2_content state version cut references ++ sidecars_content state cut (length references) (length references)) state cut

abbrev pub V2SaysVersion : Type 0
V2SaysVersion = (state : TableState) (version : ℕ) (cut : ℤ) (references : List SidecarRef) → filter_map marked_version (v2_content state version cut references) ≡ version ∷ []

abbrev pub SidecarsHaveFiles : Type 0
SidecarsHaveFiles = (state : TableState) (cut : ℤ) (number count : ℕ) → list_all is_file_action (sidecar_content state cut number count) ≡ true

-- What stands for a state up to its cut stands for a state that this one agrees with up to a horizon, up to the greater of both.
abbrev pub StandingComposes : Type 0
StandingComposes = (actions : List Action) (state whole : TableState) (cut horizon greater : ℤ) → cut ≤ℤ greater → horizon ≤ℤ greater
    → Stands actions state cut → Agree state whole horizon → Stands actions whole greater

abbrev pub ShareComposes : Type 0
ShareComposes = (actions : List Action) (state whole : TableState) (part parts : ℕ) (cut horizon greater : ℤ) → cut ≤ℤ greater → horizon ≤ℤ greater
    → HasShare actions state part parts cut → Agree state whole horizon → HasShare actions whole part parts greater

-- ---- what is written may be made

-- what was opened of a published version, at most the horizon being cut off
pub record WrittenOf (events : List Told) (horizon : ℤ) (version : ℕ) (state : TableState) (cut : ℤ) : Type 0 where
  pub published : AtMostPublished events version
  pub agrees : Agree state (table_at events version) horizon
  pub kept : IsWellKept state
  pub within : cut ≤ℤ horizon

-- a part that has what is to be written of it, whoever wrote the others
abbrev pub PartMayBeMade : Type 0
PartMayBeMade = (events : List Told) (horizon : ℤ) (version part parts : ℕ) (state : TableState) (cut : ℤ) (bytes : List ℕ) → WrittenOf events horizon version state cut
    → 1 ≤ part → part ≤ parts → InParquet bytes (part_content state cut part parts) → MayMake events (Part version part parts) bytes horizon

-- a checkpoint in one object by the version's name, where a Parquet file means at most one list of rows: a premise here
abbrev pub ClassicMayBeMade : Type 0
ClassicMayBeMade = (events : List Told) (horizon : ℤ) (version : ℕ) (state : TableState) (cut : ℤ) (bytes : List ℕ) → WrittenOf events horizon version state cut
    → InParquet bytes (classic_content state version cut) → MayMake events (Classic version) bytes horizon

-- one of the form V2, whose sidecars stand and have what is to be written of them, in the order in which it names them
abbrev pub V2MayBeMade : Type 0
V2MayBeMade = (events : List Told) (horizon : ℤ) (version id : ℕ) (json : Bool) (state : TableState) (cut : ℤ) (references : List SidecarRef) (names : List (List ℕ)) (bytes : List ℕ)
    → WrittenOf events horizon version state cut → HasActions json bytes (v2_content state version cut references)
    → sidecars_of (map (λ r. action.Sidecar r) references) ≡ Some names
    → SidesMean events names (sidecars_content state cut (length references) (length references))
    → MayMake events (V2 version id json) bytes horizon
