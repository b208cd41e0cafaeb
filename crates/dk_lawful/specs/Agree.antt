-- How a checkpoint stands for a state (Delta Lake's PROTOCOL.md, "Checkpoints", "Action Reconciliation").
use Rattle.std.specs.Prelude.{◌≡◌, ℕ, ℤ, ◌<ℤ◌, List, Some}
use Rattle.std.specs.FinMap.{get}
use Rattle.dk_model.specs.declared.action.Action.{Action}
use Rattle.dk_model.specs.declared.state.TableState.{TableState}
use Rattle.dk_model.specs.State.{steps, steps_of_all, empty_state}

-- The first state is the second, but that tombstones may lack whose time isn't above the horizon.
pub record Agree (state whole : TableState) (horizon : ℤ) : Type 0 where
  pub protocol : state.protocol ≡ whole.protocol
  pub metadata : state.metadata ≡ whole.metadata
  pub files : state.files ≡ whole.files
  pub applications : state.applications ≡ whole.applications
  pub domains : state.domains ≡ whole.domains
  pub none_more : (path : List ℕ) (time : ℤ) → get state.tombstones path ≡ Some time → get whole.tombstones path ≡ Some time
  pub unexpired : (path : List ℕ) (time : ℤ) → get whole.tombstones path ≡ Some time → horizon <ℤ time → get state.tombstones path ≡ Some time

-- the actions of a checkpoint lead to such a state
abbrev pub Stands : List Action → TableState → ℤ → Type 0
Stands actions whole horizon = Agree (steps empty_state actions) whole horizon

-- from every state the actions lead to where the commits lead
abbrev pub SumsCommits : List Action → List (List Action) → Type 0
SumsCommits actions commits = (state : TableState) → steps state actions ≡ steps_of_all state commits
