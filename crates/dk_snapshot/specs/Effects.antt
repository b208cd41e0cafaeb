-- The actions that make up a state. Those that change none are left out.
use Rattle.std.specs.Prelude.{Bool, true, false, List, [], ◌∷◌, ◌++◌, Result, Ok, Err}
use Rattle.std.specs.List.{filter}
use Rattle.dk_model.specs.declared.action.Action.{Action}
use Rattle.dk_model.specs.declared.action.Action.TheVariants as action
use Rattle.dk_engine.specs.declared.refusal.Refusal.{Refusal}

-- whether an action changes a state
abbrev pub changes_state : Action → Bool
changes_state (action.Protocol p) = true
changes_state (action.Metadata m) = true
changes_state (action.Add f) = true
changes_state (action.Remove r) = true
changes_state (action.Txn t) = true
changes_state (action.Domain d) = true
changes_state (action.Info i) = false
changes_state action.Cdc = false
changes_state (action.CheckpointMeta m) = false
changes_state (action.Sidecar s) = false

-- the actions of these commits that change a state, in order
abbrev pub changes_of : List (List Action) → List Action
changes_of [] = []
changes_of (commit ∷ commits) = filter changes_state commit ++ changes_of commits

-- those of the commits that were read
abbrev pub changes_read : Result (List (List Action)) Refusal → Result (List Action) Refusal
changes_read (Ok commits) = Ok (changes_of commits)
changes_read (Err refusal) = Err refusal
