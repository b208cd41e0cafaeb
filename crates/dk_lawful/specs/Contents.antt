-- The actions of each object that is written of a checkpoint (Delta Lake's PROTOCOL.md, "Checkpoints", "V2 Spec", "Sidecar File
-- Information"). Parts and sidecars are counted from 1. Tombstones are left out whose time isn't later than the cut.
use Rattle.std.specs.Prelude.{ℕ, zero, suc, ℤ, Bool, List, [], ◌∷◌, ◌++◌, map, if◌then◌else◌}
use Rattle.dk_model.specs.declared.action.SidecarRef.{SidecarRef}
use Rattle.dk_model.specs.declared.action.Action.{Action}
use Rattle.dk_model.specs.declared.action.Action.TheVariants as action
use Rattle.dk_model.specs.declared.state.TableState.{TableState}
use Rattle.dk_model.specs.Contents.{heads, adds, is_later, removals, named_actions, canonical_with}
use Rattle.dk_features.specs.Names.{v2_checkpoint}
use Rattle.dk_features.specs.InForce.{has_feature}
use Rattle.dk_lawful.specs.Shares.{share_of, files_of}

-- ---- the form V2

-- the table has checkpoints of this form
abbrev pub has_v2 : TableState → Bool
has_v2 state = has_feature state.protocol v2_checkpoint

abbrev pub mark : ℕ → Action
mark version = action.CheckpointMeta (record { version = version })

-- ---- the objects

-- of a checkpoint that is one object by the version's name, which holds the mark where the table has the form V2
abbrev pub classic_content : TableState → ℕ → ℤ → List Action
classic_content state version cut = (if has_v2 state then mark version ∷ [] else []) ++ canonical_with state (is_later cut) (files_of state)

-- of a part: the files of its cut, and in the first part all else
abbrev pub part_content : TableState → ℤ → ℕ → ℕ → List Action
part_content state cut zero parts = []
part_content state cut (suc zero) parts = canonical_with state (is_later cut) (share_of 0 parts (files_of state))
part_content state cut (suc (suc before)) parts = adds (share_of (suc before) parts (files_of state))

-- of a sidecar: the files of its cut, and in the first all tombstones
abbrev pub sidecar_content : TableState → ℤ → ℕ → ℕ → List Action
sidecar_content state cut zero count = []
sidecar_content state cut (suc zero) count = adds (share_of 0 count (files_of state)) ++ removals state (is_later cut)
sidecar_content state cut (suc (suc before)) count = adds (share_of (suc before) count (files_of state))

-- of a checkpoint of the form V2 that is one object by a UUID: with sidecars it names them in place of the file actions
abbrev pub v2_content : TableState → ℕ → ℤ → List SidecarRef → List Action
v2_content state version cut [] = mark version ∷ canonical_with state (is_later cut) (files_of state)
v2_content state version cut (reference ∷ references) =
    mark version ∷ (heads state ++ (named_actions state ++ map (λ r. action.Sidecar r) (reference ∷ references)))
