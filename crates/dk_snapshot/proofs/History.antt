-- The commits of a whole log stand and mean themselves, and the cut of a state that passes the tests.
use Rattle.std.proofs.Common.{◌≡◌, ℕ, ℤ, ◌-◌, ◌<◌, ◌≤◌, ◌^◌, List, [], length, get_or, refl, ap, ap₂, ◌∙◌, true, false, arith}
use Rattle.std.specs.Prelude.{Option, Some, None, Result, Ok, Err, option_and_then, option_map, is_some, if◌then◌else◌}
use Rattle.std.specs.Option.{option_or}
use Rattle.std.proofs.lemmas.Option.{slice_get-get_or}
use Rattle.dk_store.specs.Told.{Told, Stored}
use Rattle.dk_store.specs.Objects.{object, content}
use Rattle.dk_model.specs.declared.action.Action.{Action}
use Rattle.dk_model.specs.declared.state.TableState.{TableState}
use Rattle.dk_model.specs.CommitText.{commit_of, reading_of}
use Rattle.dk_model.specs.CommitText as texts
use Rattle.dk_model.specs.declared.action.Protocol.{Protocol}
use Rattle.dk_features.specs.Names.{deletion_vectors}
use Rattle.dk_features.specs.Support.{fault_name, unread, unread_name}
use Rattle.dk_paths.specs.Names.{commit_path}
use Rattle.dk_snapshot.specs.Log.{commit_of_object, meant}
use Rattle.dk_snapshot.specs.History.{IsLog}
use Rattle.dk_snapshot.specs.Plan.{commit_stands, greatest_below}
use Rattle.dk_snapshot.specs.Support.{IsRead, retention, cut_before, cut_by, cut_unless, cut_with, cut_of}
use Rattle.dk_snapshot.proofs.Greatest.{greatest_below-is}

-- a commit that is read is there
some_content : (events : List Told) (path : List ℕ) (x : List Action) → option_and_then commit_of (content events path) ≡ Some x → is_some (object events path) ≡ true
some_content events path x h = go (object events path) h
  where
    go : (o : Option Stored) → option_and_then commit_of (option_map (λ s. s.bytes) o) ≡ Some x → is_some o ≡ true
    go None e = cc
    go (Some s) e = refl

no_content : (events : List Told) (path : List ℕ) → content events path ≡ None → is_some (object events path) ≡ false
no_content events path h = go (object events path) h
  where
    go : (o : Option Stored) → option_map (λ s. s.bytes) o ≡ None → is_some o ≡ false
    go None e = refl
    go (Some s) e = cc

meant_is : (path : List ℕ) (r : Result (List Action) ℕ) (x : List Action) → texts.commit_in r ≡ Some x → meant path r ≡ Ok x
meant_is path (Ok actions) x h = let same : actions ≡ x = cc in ap Ok same
meant_is path (Err line) x h = cc

pub commit_of_object-is : (path : List ℕ) (c : Option (List ℕ)) (x : List Action) → option_and_then commit_of c ≡ Some x → commit_of_object path c ≡ Ok x
commit_of_object-is path None x h = cc
commit_of_object-is path (Some bytes) x h = meant_is path (reading_of bytes) x h

module _ (events : List Told) (log : List (List Action)) (is : IsLog events log) where
  pub stands_in : (v : ℕ) → v < length log → commit_stands events v ≡ true
  stands_in v lt = some_content events (commit_path v) (get_or log v []) (is.each v lt ∙ slice_get-get_or log v [] lt)

  stands_above : (v : ℕ) → length log ≤ v → v < 2 ^ 63 → commit_stands events v ≡ false
  stands_above v le small = no_content events (commit_path v) (is.last v le small)

  pub latest_of_log : greatest_below (commit_stands events) (2 ^ 63) ≡ Some (length log - 1)
  latest_of_log =
      let some : 0 < length log = is.some in
      let small : length log ≤ 2 ^ 63 = is.small in
      greatest_below-is (commit_stands events) (2 ^ 63) (length log - 1) (omega arith) (stands_in (length log - 1) (omega arith)) (λ w a b. stands_above w (omega arith) b)

none_named : (protocol : Protocol) → unread protocol ≡ None → unread_name protocol ≡ None
unfolding unread_name
none_named protocol none = ap (option_map (fault_name protocol)) none

-- the cut of a state that passes the tests
pub cut_is : (oldest : List ℕ) (state : TableState) (kept now : ℤ) → IsRead state kept → cut_of oldest state now ≡ Ok (cut_before now kept)
cut_is oldest state kept now read =
    ap₂ (λ p m. cut_with oldest p m state.files now) read.has_protocol read.has_metadata
    ∙ ap₂ (λ (name : Option (List ℕ)) vectors. cut_unless (option_or name (if vectors then Some deletion_vectors else None)) (retention read.metadata) now) (none_named read.protocol read.reader) read.vectors
    ∙ ap (λ kept. cut_by kept now) read.retention
