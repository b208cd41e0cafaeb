-- The laws of what is read of a checkpoint in one object, as statements.
use Rattle.std.specs.Prelude.{◌≡◌, ℕ, ◌≤◌, false, List, Some, Result, Ok}
use Rattle.std.specs.List.{list_any}
use Rattle.dk_model.specs.declared.action.Action.{Action}
use Rattle.dk_store.specs.Told.{Told}
use Rattle.dk_lawful.specs.declared.segment.CheckpointRef.TheVariants.{Classic}
use Rattle.dk_lawful.specs.Checkpoints.{CheckpointMeans}
use Rattle.dk_engine.specs.declared.refusal.Refusal.{Refusal}
use Rattle.dk_listing.specs.Sizes.{stored_size}
use Rattle.dk_ckread.specs.Reading.{is_sidecar, ClassicAnswers}

-- The actions that are answered are those that the checkpoint means.
abbrev pub ReadIsMeant : Type 0
ReadIsMeant = (events : List Told) (limit version : ℕ) (path : List ℕ) (actions : List Action) → ClassicAnswers events limit path (Ok actions)
    → CheckpointMeans events (Classic version path) actions

-- Where a checkpoint means actions, none of which names a sidecar, and its object isn't over the limit, these are answered, and no refusal
-- has a cause.
abbrev pub MeantIsRead : Type 0
MeantIsRead = (events : List Told) (limit version : ℕ) (path : List ℕ) (actions : List Action) (answer : Result (List Action) Refusal)
    → CheckpointMeans events (Classic version path) actions → list_any is_sidecar actions ≡ false → ((size : ℕ) → stored_size events path ≡ Some size → size ≤ limit)
    → ClassicAnswers events limit path answer → answer ≡ Ok actions
