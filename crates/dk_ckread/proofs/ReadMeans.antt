-- What is answered of a checkpoint in one object is what it means, and what it means is answered.
use Rattle.std.proofs.Common.{◌≡◌, ℕ, ◌≤◌, ◌<◌, inl, inr, Bool, true, false, List, [], ◌∷◌, ◌++◌, length, Option, Some, None, option_map, refl, sym, ap, subst, ◌∙◌, arith, true≢false, append-nil}
use Rattle.std.proofs.lemmas.Bool.{ltb-true}
use Rattle.std.specs.Prelude.{nat_lt, Result, Ok, Err}
use Rattle.std.specs.List.{list_any}
use Rattle.dk_model.specs.declared.action.Action.{Action}
use Rattle.dk_model.specs.declared.action.Action.TheVariants as action
use Rattle.dk_store.specs.Told.{Told, Stored}
use Rattle.dk_store.specs.Objects.{object, content}
use Rattle.dk_pqmodel.specs.Datum.{Cells}
use Rattle.dk_pqmodel.specs.FileMeans.{FileMeans, MeansOneList}
use Rattle.dk_pqmodel.specs.declared.fault.PqFault.{PqFault}
use Rattle.dk_engine.specs.declared.refusal.Refusal.{Refusal}
use Rattle.dk_lawful.specs.declared.segment.CheckpointRef.TheVariants.{Classic}
use Rattle.dk_lawful.specs.CheckpointRows.{actions_of_rows}
use Rattle.dk_lawful.specs.CheckpointSchema.{read_fields}
use Rattle.dk_lawful.specs.Checkpoints.{InParquet, sidecars_of, SidesMean, CheckpointMeans}
use Rattle.dk_lawful.proofs.OneMeaning.{actions_in_parquet}
use Rattle.dk_listing.specs.Sizes.{size_of_object, stored_size}
use Rattle.dk_ckread.specs.Reading.{FileRefused, is_sidecar, AreNoActions, ObjectAnswers, FoundAnswers, UnlessOver, IfFits}
use Rattle.dk_ckread.specs.ReadLaws.{ReadIsMeant, MeantIsRead}

no_sidecars : (actions : List Action) → list_any is_sidecar actions ≡ false → sidecars_of actions ≡ Some []
no_sidecars [] none = refl
no_sidecars (action.Sidecar reference ∷ actions) none = absurd (true≢false none)
no_sidecars (_ ∷ actions) none = no_sidecars actions none

ok_is_err : (actions : List Action) (refusal : Refusal) → ◌≡◌ {A = Result (List Action) Refusal} (Ok actions) (Err refusal) → ⊥
ok_is_err actions refusal is = cc

unless_over : (over : Bool) (size : ℕ) (Means : Result (List Action) Refusal → Type 0) (actions : List Action) → UnlessOver over size Means (Ok actions) → Means (Ok actions)
unless_over true size Means actions answer = absurd (ok_is_err actions _ answer)
unless_over false size Means actions answer = answer

if_fits : (limit : ℕ) (size : Option ℕ) (Means : Result (List Action) Refusal → Type 0) (actions : List Action) → IfFits limit size Means (Ok actions) → Means (Ok actions)
if_fits limit None Means actions answer = answer
if_fits limit (Some size) Means actions answer = unless_over (nat_lt limit size) size Means actions answer

if_found : (events : List Told) (version : ℕ) (path : List ℕ) (actions : List Action) (found : Option (List ℕ)) → content events path ≡ found → FoundAnswers path found (Ok actions)
    → CheckpointMeans events (Classic version path) actions
if_found events version path actions None is answer = absurd (ok_is_err actions _ answer)
if_found events version path actions (Some bytes) is (means, none) = record {
  top = record { actions = actions; sidecars = [] };
  means = (bytes, is, record { means = means; named = no_sidecars actions none });
  sides = [];
  sides_mean = refl;
  all = sym (append-nil actions);
}

pub read_is_meant : ReadIsMeant
read_is_meant events limit version path actions answer =
    if_found events version path actions (content events path) refl (if_fits limit (stored_size events path) (FoundAnswers path (content events path)) actions answer)

-- ---- what a checkpoint means is answered

none_before : (front back : List Action) → list_any is_sidecar (front ++ back) ≡ false → list_any is_sidecar front ≡ false
none_before [] back none = refl
none_before (action.Sidecar reference ∷ front) back none = absurd (true≢false none)
none_before (_ ∷ front) back none = none_before front back none

no_names : (found : Option (List (List ℕ))) (names : List (List ℕ)) → found ≡ Some [] → found ≡ Some names → names ≡ []
no_names found names none is = let both : Some names ≡ Some [] = sym is ∙ none in cc

size_of : (found : Option Stored) (bytes : List ℕ) → option_map (λ (o : Stored). o.bytes) found ≡ Some bytes → size_of_object found ≡ Some (length bytes)
size_of None bytes is = absurd (let no : ◌≡◌ {A = Option (List ℕ)} None (Some bytes) = is in cc)
size_of (Some o) bytes is = let same : o.bytes ≡ bytes = cc in ap (λ (b : List ℕ). Some (length b)) same

within : (limit size : ℕ) (Means : Result (List Action) Refusal → Type 0) (answer : Result (List Action) Refusal) → size ≤ limit → IfFits limit (Some size) Means answer → Means answer
within limit size Means answer most given = by (nat_lt limit size) refl given
  where
    by : (over : Bool) → nat_lt limit size ≡ over → UnlessOver over size Means answer → Means answer
    by true is given = absurd (let past : limit < size = ltb-true limit size is in omega (arith, past, most))
    by false is given = given

-- that a file which means rows is refused by none of its faults
abbrev pub NeverRefused : Type 0
NeverRefused = (bytes : List ℕ) (rows : Cells) → FileMeans read_fields bytes rows → (fault : PqFault) → FileRefused bytes fault → ⊥

module _ (one : MeansOneList) (never : NeverRefused) where
  object_is_read : (path bytes : List ℕ) (actions : List Action) (answer : Result (List Action) Refusal) → InParquet bytes actions → list_any is_sidecar actions ≡ false
      → ObjectAnswers path bytes answer → answer ≡ Ok actions
  object_is_read path bytes actions (Ok others) means none (means_other, none_other) = ap Ok (actions_in_parquet one bytes others actions means_other means)
  object_is_read path bytes actions (Err refusal) means none (inl (fault, refused, is)) = absurd (never bytes means.rows means.means fault refused)
  object_is_read path bytes actions (Err refusal) means none (inr (rows, file, (lacks, is))) =
      let same : rows ≡ means.rows = one read_fields bytes rows means.rows file means.means in
      absurd (by (ap actions_of_rows same ∙ means.read) lacks)
    where
      by : actions_of_rows rows ≡ Some actions → AreNoActions rows → ⊥
      by read (inl nothing) = let no : ◌≡◌ {A = Option (List Action)} None (Some actions) = sym nothing ∙ read in cc
      by read (inr (others, found, named)) =
          let both : Some others ≡ Some actions = sym found ∙ read in
          let same : others ≡ actions = cc in
          true≢false (sym named ∙ ap (list_any is_sidecar) same ∙ none)

  pub meant_is_read : MeantIsRead
  meant_is_read events limit version path actions answer meant none fits answers =
      let (bytes, has, top) = meant.means in
      let of_top : list_any is_sidecar meant.top.actions ≡ false = none_before meant.top.actions meant.sides (ap (list_any is_sidecar) (sym meant.all) ∙ none) in
      let names : meant.top.sidecars ≡ [] = no_names (sidecars_of meant.top.actions) meant.top.sidecars (no_sidecars meant.top.actions of_top) top.named in
      let sides : meant.sides ≡ [] = subst (λ ns. SidesMean events ns meant.sides) names meant.sides_mean in
      let all : actions ≡ meant.top.actions = meant.all ∙ ap (λ xs. meant.top.actions ++ xs) sides ∙ append-nil meant.top.actions in
      let sized : stored_size events path ≡ Some (length bytes) = size_of (object events path) bytes has in
      let fitting : IfFits limit (Some (length bytes)) (FoundAnswers path (content events path)) answer = subst (λ size. IfFits limit size (FoundAnswers path (content events path)) answer) sized answers in
      let found : FoundAnswers path (Some bytes) answer = subst (λ object. FoundAnswers path object answer) has (within limit (length bytes) (FoundAnswers path (content events path)) answer (fits (length bytes) sized) fitting) in
      object_is_read path bytes meant.top.actions answer top.means of_top found ∙ ap Ok (sym all)
