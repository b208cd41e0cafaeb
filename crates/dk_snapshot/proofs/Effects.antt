-- Actions that change no state may be left out of a fold.
use Rattle.std.proofs.Common.{◌≡◌, List, [], ◌∷◌, ◌++◌, refl, ap, sym, subst, ◌∙◌, append_assoc, reverse}
use Rattle.std.proofs.lemmas.List.{reverse-append}
use Rattle.std.proofs.lemmas.List.Elements.{filter-append}
use Rattle.std.specs.Prelude.{ℕ, ℤ, Bool, true, false, Option, Some, None, is_some, Result, Ok, Err, IfOk, if◌then◌else◌}
use Rattle.std.specs.List.{AllByRecursion}
use Rattle.std.specs.Option.{option_or}
use Rattle.dk_model.specs.declared.action.AddFile.{AddFile}
use Rattle.dk_model.specs.declared.action.Metadata.{Metadata}
use Rattle.dk_model.specs.declared.action.Protocol.{Protocol}
use Rattle.dk_model.specs.Texts.{ByText}
use Rattle.dk_model.specs.WellKept.{IsWellKept}
use Rattle.dk_lawful.specs.declared.segment.Segment.{Segment}
use Rattle.dk_engine.specs.declared.refusal.Refusal.{Refusal}
use Rattle.dk_engine.specs.declared.refusal.Refusal.TheVariants.{Damaged, Unsupported}
use Rattle.dk_snapshot.specs.declared.table.Snapshot.{Snapshot}
use Rattle.dk_snapshot.specs.Opening.{snapshot_with}
use Rattle.dk_features.specs.Names.{deletion_vectors}
use Rattle.dk_features.specs.Support.{unread_name}
use Rattle.dk_snapshot.specs.Support.{IsComplete, cut_of, cut_unless, cut_with, has_vectors, retention}
use Rattle.std.specs.List.{filter}
use Rattle.dk_model.specs.declared.action.Action.{Action}
use Rattle.dk_model.specs.declared.action.Action.TheVariants as action
use Rattle.dk_model.specs.declared.state.TableState.{TableState}
use Rattle.dk_model.specs.State.{step, steps, steps_of_all}
use Rattle.dk_snapshot.specs.Effects.{changes_state, changes_of}

steps_append : (state : TableState) (first rest : List Action) → steps state (first ++ rest) ≡ steps (steps state first) rest
steps_append state [] rest = refl
steps_append state (a ∷ first) rest = steps_append (step state a) first rest

steps_changes : (state : TableState) (commit : List Action) → steps state (filter changes_state commit) ≡ steps state commit
steps_changes state [] = refl
steps_changes state (action.Protocol p ∷ rest) = steps_changes (step state (action.Protocol p)) rest
steps_changes state (action.Metadata m ∷ rest) = steps_changes (step state (action.Metadata m)) rest
steps_changes state (action.Add f ∷ rest) = steps_changes (step state (action.Add f)) rest
steps_changes state (action.Remove r ∷ rest) = steps_changes (step state (action.Remove r)) rest
steps_changes state (action.Txn t ∷ rest) = steps_changes (step state (action.Txn t)) rest
steps_changes state (action.Domain d ∷ rest) = steps_changes (step state (action.Domain d)) rest
steps_changes state (action.Info i ∷ rest) = steps_changes state rest
steps_changes state (action.Cdc ∷ rest) = steps_changes state rest
steps_changes state (action.CheckpointMeta m ∷ rest) = steps_changes state rest
steps_changes state (action.Sidecar s ∷ rest) = steps_changes state rest

-- the changes of commits lead where the commits lead
pub fold_changes : (state : TableState) (commits : List (List Action)) → steps state (changes_of commits) ≡ steps_of_all state commits
fold_changes state [] = refl
fold_changes state (commit ∷ commits) =
    steps_append state (filter changes_state commit) (changes_of commits) ∙ ap (λ (s : TableState). steps s (changes_of commits)) (steps_changes state commit) ∙ fold_changes (steps state commit) commits

-- ---- a commit that is gathered from its end

filter_one : (one : Action) (told : Bool) → changes_state one ≡ told → filter changes_state (one ∷ []) ≡ (if told then one ∷ [] else [])
filter_one one told is = ap (λ (b : Bool). if b then one ∷ [] else []) is

pub keeps_one : (one : Action) (newer more : List Action) → changes_state one ≡ true → more ≡ newer ++ one ∷ [] → reverse more ≡ filter changes_state (one ∷ []) ++ reverse newer
keeps_one one newer more is grown = ap reverse grown ∙ reverse-append newer (one ∷ []) ∙ sym (ap (λ (front : List Action). front ++ reverse newer) (filter_one one true is))

pub leaves_one : (one : Action) (newer : List Action) → changes_state one ≡ false → reverse newer ≡ filter changes_state (one ∷ []) ++ reverse newer
leaves_one one newer is = sym (ap (λ (front : List Action). front ++ reverse newer) (filter_one one false is))

-- one more action of it, the last of those that are left
pub gather_more : (left popped : List Action) (last : Action) (newer more : List Action) → popped ≡ left ++ last ∷ [] → reverse more ≡ filter changes_state (last ∷ []) ++ reverse newer
    → filter changes_state left ++ reverse more ≡ filter changes_state popped ++ reverse newer
gather_more left popped last newer more grown kept =
    ap (λ (front : List Action). filter changes_state left ++ front) kept ∙ sym (append_assoc (filter changes_state left) (filter changes_state (last ∷ [])) (reverse newer))
    ∙ ap (λ (whole : List Action). whole ++ reverse newer) (sym (filter-append changes_state left (last ∷ [])) ∙ ap (filter changes_state) (sym grown))

-- what holds of all actions of a commit, and of those behind it, holds of those that are kept
pub kept_all : (P : Action → Type 0) (commit newer : List Action) → AllByRecursion P commit → AllByRecursion P newer → AllByRecursion P (filter changes_state commit ++ newer)
kept_all P [] newer first later = later
kept_all P (a ∷ rest) newer first later = by (changes_state a) (kept_all P rest newer first.1 later)
  where
    by : (keeps : Bool) → AllByRecursion P (filter changes_state rest ++ newer) → AllByRecursion P ((if keeps then a ∷ filter changes_state rest else filter changes_state rest) ++ newer)
    by true behind = (first.0, behind)
    by false behind = behind

-- ---- what writers of checkpoints need of a state

-- the last of the actions that are left is the next one
pub next_all : (P : Action → Type 0) (items left : List Action) (next : Action) → items ≡ left ++ next ∷ [] → AllByRecursion P (reverse items) → P next × AllByRecursion P (reverse left)
next_all P items left next last all = subst (λ (xs : List Action). AllByRecursion P xs) (ap reverse last ∙ reverse-append left (next ∷ [])) all

pub fold_next : (state new whole : TableState) (items left : List Action) (next : Action) → items ≡ left ++ next ∷ [] → new ≡ step state next → steps state (reverse items) ≡ whole → steps new (reverse left) ≡ whole
fold_next state new whole items left next last moved before =
    ap (λ (s : TableState). steps s (reverse left)) moved ∙ ap (steps state) (sym (ap reverse last ∙ reverse-append left (next ∷ []))) ∙ before

-- the tests that a state passes
opened_parts : (oldest : List ℕ) (protocol : Option Protocol) (metadata : Option Metadata) (files : ByText AddFile) (now cut : ℤ) → cut_with oldest protocol metadata files now ≡ Ok cut
    → (is_some protocol ≡ true) × (is_some metadata ≡ true) × (has_vectors files ≡ false)
opened_parts oldest None metadata files now cut is = absurd (let no : ◌≡◌ {A = Result ℤ Refusal} (Err (Damaged oldest 0)) (Ok cut) = is in cc)
opened_parts oldest (Some protocol) None files now cut is = absurd (let no : ◌≡◌ {A = Result ℤ Refusal} (Err (Damaged oldest 0)) (Ok cut) = is in cc)
opened_parts oldest (Some protocol) (Some metadata) files now cut is = (refl, refl, by (unread_name protocol) (has_vectors files) is)
  where
    by : (name : Option (List ℕ)) (vectors : Bool) → cut_unless (option_or name (if vectors then Some deletion_vectors else None)) (retention metadata) now ≡ Ok cut → vectors ≡ false
    by name false given = refl
    by None true given = absurd (let no : ◌≡◌ {A = Result ℤ Refusal} (Err (Unsupported deletion_vectors)) (Ok cut) = given in cc)
    by (Some name) true given = absurd (let no : ◌≡◌ {A = Result ℤ Refusal} (Err (Unsupported name)) (Ok cut) = given in cc)

pub opened_is_complete : (oldest : List ℕ) (state : TableState) (now cut : ℤ) → IsWellKept state → cut_of oldest state now ≡ Ok cut → IsComplete state
opened_is_complete oldest state now cut kept is =
    let parts : (is_some state.protocol ≡ true) × (is_some state.metadata ≡ true) × (has_vectors state.files ≡ false) = opened_parts oldest state.protocol state.metadata state.files now cut is in
    record { kept = kept; protocol = parts.0; metadata = parts.1; no_vectors = parts.2 }

pub read_complete : (version : ℕ) (segment : Segment) (read : Result (TableState × ℤ) Refusal) (result : Result Snapshot Refusal) → IfOk read (λ (r : TableState × ℤ). IsComplete r.0) → result ≡ snapshot_with version segment read
    → IfOk result (λ (s : Snapshot). IsComplete s.state)
read_complete version segment (Ok read) result complete is_with = subst (λ (r : Result Snapshot Refusal). IfOk r (λ (s : Snapshot). IsComplete s.state)) (sym is_with) complete
read_complete version segment (Err other) result complete is_with = subst (λ (r : Result Snapshot Refusal). IfOk r (λ (s : Snapshot). IsComplete s.state)) (sym is_with) tt
