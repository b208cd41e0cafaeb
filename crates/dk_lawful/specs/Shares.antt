-- Which files of a state stand in which part of a checkpoint, and what the actions of a part do (Delta Lake's PROTOCOL.md,
-- "Checkpoints", multi-part checkpoints). Parts are counted from 1.
use Rattle.std.specs.Prelude.{◌≡◌, ℕ, zero, suc, ℤ, ◌*◌, ◌/◌, ◌<ℤ◌, Bool, List, Some, None, is_some, length, take, drop, if◌then◌else◌}
use Rattle.std.specs.Ordering.{nat_cmp}
use Rattle.std.specs.Cmp.Lexicographic.{slice_cmp}
use Rattle.std.specs.FinMap.{get, find, entries}
use Rattle.dk_model.specs.declared.action.AddFile.{AddFile}
use Rattle.dk_model.specs.declared.action.Action.{Action}
use Rattle.dk_model.specs.declared.state.TableState.{TableState}
use Rattle.dk_model.specs.State.{steps, empty_state}

-- how many of so many files stand in the parts up to this one
abbrev pub files_up_to : ℕ → ℕ → ℕ → ℕ
files_up_to part parts count = part * count / parts

-- of a list, what part `suc before` of so many has: the files from one number on up to another
abbrev pub share_of : {A : Type 0} → ℕ → ℕ → List A → List A
share_of before parts xs = drop (files_up_to before parts (length xs)) (take (files_up_to (suc before) parts (length xs)) xs)

-- the files of a state, by path
abbrev pub files_of : TableState → List (List ℕ × AddFile)
files_of state = entries state.files

abbrev pub has_file : List (List ℕ × AddFile) → List ℕ → Bool
has_file files path = is_some (find (slice_cmp nat_cmp) path files)

-- What a part does that has files alone: from each state it sets its files of the whole state, and nothing else.
pub record SetsFiles (actions : List Action) (whole : TableState) (files : List (List ℕ × AddFile)) : Type 0 where
  pub sets : (state : TableState) (path : List ℕ) → get (steps state actions).files path ≡ (if has_file files path then get whole.files path else get state.files path)
  pub takes : (state : TableState) (path : List ℕ) → get (steps state actions).tombstones path ≡ (if has_file files path then None else get state.tombstones path)
  pub protocol : (state : TableState) → (steps state actions).protocol ≡ state.protocol
  pub metadata : (state : TableState) → (steps state actions).metadata ≡ state.metadata
  pub applications : (state : TableState) → (steps state actions).applications ≡ state.applications
  pub domains : (state : TableState) → (steps state actions).domains ≡ state.domains

-- What the first part does: it sets its files and all that isn't a file, but that tombstones may lack whose time isn't above the horizon.
pub record SetsAllElse (actions : List Action) (whole : TableState) (files : List (List ℕ × AddFile)) (horizon : ℤ) : Type 0 where
  pub sets : (path : List ℕ) → get (steps empty_state actions).files path ≡ (if has_file files path then get whole.files path else None)
  pub protocol : (steps empty_state actions).protocol ≡ whole.protocol
  pub metadata : (steps empty_state actions).metadata ≡ whole.metadata
  pub applications : (steps empty_state actions).applications ≡ whole.applications
  pub domains : (steps empty_state actions).domains ≡ whole.domains
  pub none_more : (path : List ℕ) (time : ℤ) → get (steps empty_state actions).tombstones path ≡ Some time → get whole.tombstones path ≡ Some time
  pub unexpired : (path : List ℕ) (time : ℤ) → get whole.tombstones path ≡ Some time → horizon <ℤ time → get (steps empty_state actions).tombstones path ≡ Some time

-- The actions are the share of the state that this part of so many has, whoever makes the others.
abbrev pub HasShare : List Action → TableState → ℕ → ℕ → ℤ → Type 0
HasShare actions whole zero parts horizon = ⊥
HasShare actions whole (suc zero) parts horizon = SetsAllElse actions whole (share_of 0 parts (files_of whole)) horizon
HasShare actions whole (suc (suc before)) parts horizon = SetsFiles actions whole (share_of (suc before) parts (files_of whole))
