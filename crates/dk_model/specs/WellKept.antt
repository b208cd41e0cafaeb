-- What writers of checkpoints need of a state.
use Rattle.std.specs.Prelude.{◌≡◌, ◌⊎◌, ℕ, List, None, false, IfSome}
use Rattle.std.specs.FinMap as map
use Rattle.dk_model.specs.declared.action.Action.{Action}
use Rattle.dk_model.specs.declared.state.TableState.{TableState}
use Rattle.dk_model.specs.State.{step, empty_state}
use Rattle.dk_model.specs.Ranges.{IsWhole, IsProtocolInRange, IsMetadataInRange, IsAddInRange, IsApplicationInRange, IsInRange}

pub record IsWellKept (s : TableState) : Type 0 where
  -- each file stands under its own path
  pub own_path : (q : List ℕ) → IfSome (map.get s.files q) (λ f. f.path ≡ q)
  -- no file says that it changes data
  pub unchanged : (q : List ℕ) → IfSome (map.get s.files q) (λ f. f.data_change ≡ false)
  -- no path has both a file and a tombstone
  pub apart : (q : List ℕ) → (map.get s.files q ≡ None) ⊎ (map.get s.tombstones q ≡ None)
  -- the numbers are in their ranges
  pub protocol : IfSome s.protocol IsProtocolInRange
  pub metadata : IfSome s.metadata IsMetadataInRange
  pub files : (q : List ℕ) → IfSome (map.get s.files q) IsAddInRange
  pub tombstones : (q : List ℕ) → IfSome (map.get s.tombstones q) IsWhole
  pub applications : (q : List ℕ) → IfSome (map.get s.applications q) IsApplicationInRange

-- it holds of the empty state, and each step keeps it
abbrev pub StaysWellKept : Type 0
StaysWellKept = IsWellKept empty_state × ((s : TableState) (a : Action) → IsWellKept s → IsInRange a → IsWellKept (step s a))
