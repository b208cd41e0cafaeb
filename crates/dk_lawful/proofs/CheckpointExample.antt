-- Checkpoints come lawfully after the example, and what they make needless goes; and objects that are none may not come.
use Rattle.std.proofs.Common.{◌≡◌, ℕ, ℤ, pos, ◌<◌, true, ◌⊎◌, inl, inr, take, length, List, [], ◌∷◌, ◌++◌, Some, None, codes, refl, sym, ap, subst, ◌∙◌, arith}
use Rattle.std.specs.List.{filter_map}
use Rattle.percent_encoding.specs.Percent.{percent_decode}
use Rattle.dk_model.specs.declared.action.Action.{Action}
use Rattle.dk_model.specs.declared.state.TableState.{TableState}
use Rattle.dk_model.specs.CheckpointObjects.{checkpoint_meta_of, sidecar_of}
use Rattle.dk_model.specs.CommitText.{commit_of}
use Rattle.dk_model.specs.State.{steps, fold, empty_state}
use Rattle.dk_store.specs.Told.{Told, Made, Deleted}
use Rattle.dk_paths.specs.Names.{commit_path}
use Rattle.dk_paths.specs.Places.{Place, Commit_at, V2, Compacted, place_of, place_path, IsPlace}
use Rattle.dk_paths.proofs.PlaceLaws.{place_of_path}
use Rattle.dk_lawful.specs.Present.{Holds, Present, AtMostPublished}
use Rattle.dk_lawful.specs.History.{RatifiedCommit, after_made, history, commits_of, table_at}
use Rattle.dk_lawful.specs.Agree.{Agree}
use Rattle.dk_lawful.specs.Checkpoints.{sidecar_of_path, with_name, sidecars_of, Top, HasTop, marked_version, Among}
use Rattle.dk_lawful.specs.Floor.{IsBelow}
use Rattle.dk_lawful.specs.Permits.{MayMake, MayDelete, MakesTop}
use Rattle.dk_lawful.specs.Lawful.{Lawful}
use Rattle.dk_lawful.specs.Example.{first_text, first_actions, second_text, second_actions, example}
use Rattle.dk_lawful.specs.MoreExamples.{IsLawfulAfter, compacting, side_name}
use Rattle.dk_lawful.specs.BrokenRules.{sidecar_text}
use Rattle.dk_lawful.specs.CheckpointExample.{ClearedFloor, mark_text_0, mark_text_1, side_text, older_text, older_actions, whole_text, whole_actions, lacking_text, lacking_actions, naming_text, naming_actions, older_marked_text, older_marked_actions, unmarked_text, unmarked_actions, marked_twice_text, marked_twice_actions, misnaming_text, misnaming_actions, checkpointing, clearing}
use Rattle.dk_lawful.proofs.SegmentsAgree.{agrees_itself}
use Rattle.dk_lawful.proofs.OnTexts.{commits_on_literals}
use Rattle.dk_lawful.proofs.OneMeaning.{one_value}
use Rattle.dk_lawful.proofs.Standing.{commit_place, found_made, kept_made, kept_deleted, made_here}
use Rattle.dk_lawful.proofs.Sound.{length_commits}
use Rattle.dk_lawful.proofs.Stays.{from_last}
use Rattle.dk_lawful.proofs.Example.{only_commits}
use Rattle.dk_lawful.proofs.MoreExamples.{free_at, example_commits, compacting_is_lawful, example_published}

older_means : commit_of older_text ≡ Some older_actions
unfolding commits_on_literals checkpoint_meta_of mark_text_0 first_text
older_means = refl

pub whole_means : commit_of whole_text ≡ Some whole_actions
unfolding commits_on_literals checkpoint_meta_of mark_text_1 first_text second_text
whole_means = refl

pub older_marked_means : commit_of older_marked_text ≡ Some older_marked_actions
unfolding commits_on_literals checkpoint_meta_of mark_text_1 first_text
older_marked_means = refl

pub unmarked_means : commit_of unmarked_text ≡ Some unmarked_actions
unfolding commits_on_literals first_text second_text
unmarked_means = refl

pub marked_twice_means : commit_of marked_twice_text ≡ Some marked_twice_actions
unfolding commits_on_literals checkpoint_meta_of mark_text_1 first_text second_text
marked_twice_means = refl

pub misnaming_means : commit_of misnaming_text ≡ Some misnaming_actions
unfolding commits_on_literals checkpoint_meta_of sidecar_of mark_text_1 first_text second_text sidecar_text
misnaming_means = refl

pub misnamed : sidecars_of misnaming_actions ≡ None
unfolding sidecar_of_path percent_decode commits_on_literals
misnamed = refl

pub lacking_means : commit_of lacking_text ≡ Some lacking_actions
unfolding commits_on_literals checkpoint_meta_of mark_text_1 second_text
lacking_means = refl

pub naming_means : commit_of naming_text ≡ Some naming_actions
unfolding commits_on_literals checkpoint_meta_of sidecar_of mark_text_1 first_text second_text side_text
naming_means = refl

side_named : sidecar_of_path (codes "x/%73.parquet") ≡ Some side_name
unfolding sidecar_of_path percent_decode commits_on_literals
side_named = refl

pub names_side : sidecars_of naming_actions ≡ Some (side_name ∷ [])
names_side = ap (λ name. with_name name (Some [])) side_named

-- ---- objects in JSON

-- what an object in JSON has is what its text means
pub has_these : (bytes : List ℕ) (actions : List Action) (top : Top) → commit_of bytes ≡ Some actions → HasTop true bytes top → top.actions ≡ actions
has_these bytes actions top means has = one_value (commit_of bytes) top.actions actions has.means means

pub names_these : (bytes : List ℕ) (actions : List Action) (names : List (List ℕ)) (top : Top) → commit_of bytes ≡ Some actions → sidecars_of actions ≡ Some names → HasTop true bytes top
    → top.sidecars ≡ names
names_these bytes actions names top means named has =
    one_value (sidecars_of actions) top.sidecars names (ap sidecars_of (sym (has_these bytes actions top means has)) ∙ has.named) named

-- a checkpoint of this form that names no sidecar
pub makes_json : (events : List Told) (version id : ℕ) (bytes : List ℕ) (actions : List Action) (horizon : ℤ) → AtMostPublished events version → commit_of bytes ≡ Some actions
    → filter_map marked_version actions ≡ version ∷ [] → sidecars_of actions ≡ Some [] → steps empty_state (actions ++ []) ≡ table_at events version
    → MakesTop events (V2 version id true) version bytes horizon
makes_json events version id bytes actions horizon published means versions alone leads = record {
  published = published;
  top = record { actions = actions; sidecars = [] };
  means = (record { means = means; named = alone }, versions);
  sides = [];
  sides_mean = refl;
  stands = subst (λ (state : TableState). Agree (steps empty_state (actions ++ [])) state horizon) leads (agrees_itself (steps empty_state (actions ++ [])) horizon);
  named = λ name (top, has, among). absurd (let no : ⊥ = subst (Among name) (names_these bytes actions [] top means alone has.0) among in no);
}

-- ---- the lists

-- one more event on a lawful list
pub made : (events : List Told) (place : Place) (bytes : List ℕ) (stamp horizon : ℤ) → Lawful events horizon → IsPlace place → ((held : List ℕ) → Holds events place held → ⊥)
    → MayMake events place bytes horizon → Lawful (Made (place_path place) bytes stamp ∷ events) horizon
made events place bytes stamp horizon lawful is none may =
    ((free_at events place is none, subst (λ p. MayMake events p bytes horizon) (sym (place_of_path place is)) may), lawful)

pub gone : (events : List Told) (place : Place) (horizon : ℤ) → Lawful events horizon → IsPlace place → MayDelete events place → Lawful (Deleted (place_path place) ∷ events) horizon
gone events place horizon lawful is may = (subst (MayDelete events) (sym (place_of_path place is)) may, lawful)

-- what stands after an object was made at a place
abbrev pub OnlyAt : List Told → (Place → Type 0) → Type 0
OnlyAt events P = (place : Place) (held : List ℕ) → Holds events place held → P place

pub also_at : (events : List Told) (P : Place → Type 0) (here : Place) (bytes : List ℕ) (stamp : ℤ) → IsPlace here → OnlyAt events P
    → OnlyAt (Made (place_path here) bytes stamp ∷ events) (λ place. (here ≡ place) ⊎ P place)
also_at events P here bytes stamp is only place held holds = elim (found_made events (place_path here) bytes stamp place held holds) [
  | inl (at, same) ↦ inl (sym (place_of_path here is) ∙ at)
  | inr before ↦ inr (only place held before)
]

abbrev IsCommitPlace : Place → Type 0
IsCommitPlace place = (version : ℕ) × (Commit_at version ≡ place)

compacted_is : IsPlace (Compacted 0 1)
compacted_is = ((omega arith), (omega arith))

older_is : IsPlace (V2 0 6 true)
older_is = ((omega arith), (omega arith))

pub whole_is : IsPlace (V2 1 7 true)
whole_is = ((omega arith), (omega arith))

only_compacted : OnlyAt (compacting example) (λ place. (Compacted 0 1 ≡ place) ⊎ IsCommitPlace place)
only_compacted = also_at example IsCommitPlace (Compacted 0 1) (first_text ++ second_text) (pos 2) compacted_is only_commits

only_older : OnlyAt (Made (place_path (V2 0 6 true)) older_text (pos 3) ∷ compacting example) (λ place. (V2 0 6 true ≡ place) ⊎ ((Compacted 0 1 ≡ place) ⊎ IsCommitPlace place))
only_older = also_at (compacting example) (λ place. (Compacted 0 1 ≡ place) ⊎ IsCommitPlace place) (V2 0 6 true) older_text (pos 3) older_is only_compacted

-- the history stays that of the example
pub quiet : (events : List Told) (place : Place) (bytes : List ℕ) (stamp : ℤ) → IsPlace place → ((h : List RatifiedCommit) → after_made h place bytes ≡ h)
    → history (Made (place_path place) bytes stamp ∷ events) ≡ history events
quiet events place bytes stamp is adds = ap (λ p. after_made (history events) p bytes) (place_of_path place is) ∙ adds (history events)

compacted_commits : commits_of (history (compacting example)) ≡ first_actions ∷ second_actions ∷ []
compacted_commits = ap commits_of (quiet example (Compacted 0 1) (first_text ++ second_text) (pos 2) compacted_is (λ h. refl)) ∙ example_commits

older_commits : commits_of (history (Made (place_path (V2 0 6 true)) older_text (pos 3) ∷ compacting example)) ≡ first_actions ∷ second_actions ∷ []
older_commits = ap commits_of (quiet (compacting example) (V2 0 6 true) older_text (pos 3) older_is (λ h. refl)) ∙ compacted_commits

-- the last commit stays
still_published : (events : List Told) (place : Place) (bytes : List ℕ) (stamp : ℤ) → IsPlace place → ((held : List ℕ) → Holds events place held → ⊥)
    → AtMostPublished events 1 → AtMostPublished (Made (place_path place) bytes stamp ∷ events) 1
still_published events place bytes stamp is none (last, most, (held, holds)) =
    (last, most, (held, kept_made events (place_path place) bytes stamp (Commit_at last) held (free_at events place is none) holds))

none_at_older : (held : List ℕ) → Holds (compacting example) (V2 0 6 true) held → ⊥
none_at_older held holds = elim (only_compacted (V2 0 6 true) held holds) [
  | inl is ↦ let no : Compacted 0 1 ≡ V2 0 6 true = is in cc
  | inr (version, is) ↦ let no : Commit_at version ≡ V2 0 6 true = is in cc
]

none_at_whole : (held : List ℕ) → Holds (Made (place_path (V2 0 6 true)) older_text (pos 3) ∷ compacting example) (V2 1 7 true) held → ⊥
none_at_whole held holds = elim (only_older (V2 1 7 true) held holds) [
  | inl is ↦ other_version 0 1 6 7 (omega arith) is
  | inr before ↦ elim before [
    | inl is ↦ let no : Compacted 0 1 ≡ V2 1 7 true = is in cc
    | inr (version, is) ↦ let no : Commit_at version ≡ V2 1 7 true = is in cc
  ]
]
  where
    other_version : (a b c d : ℕ) → a < b → V2 a c true ≡ V2 b d true → ⊥
    other_version a b c d less is = let same : a ≡ b = cc in omega arith

none_at_compacted : (held : List ℕ) → Holds example (Compacted 0 1) held → ⊥
none_at_compacted held holds = let only = only_commits (Compacted 0 1) held holds in let no : Commit_at only.0 ≡ Compacted 0 1 = only.1 in cc

compacted_published : AtMostPublished (compacting example) 1
compacted_published = still_published example (Compacted 0 1) (first_text ++ second_text) (pos 2) compacted_is none_at_compacted example_published

older_published : AtMostPublished (Made (place_path (V2 0 6 true)) older_text (pos 3) ∷ compacting example) 1
older_published = still_published (compacting example) (V2 0 6 true) older_text (pos 3) older_is none_at_older compacted_published

pub checkpointing_is_lawful : IsLawfulAfter checkpointing
checkpointing_is_lawful horizon =
    made (Made (place_path (V2 0 6 true)) older_text (pos 3) ∷ compacting example) (V2 1 7 true) whole_text (pos 4) horizon
    (made (compacting example) (V2 0 6 true) older_text (pos 3) horizon (compacting_is_lawful horizon) older_is none_at_older
    (makes_json (compacting example) 0 6 older_text older_actions horizon (compacted_published.0, (omega arith), compacted_published.2) older_means refl refl
    (ap (λ commits. fold (take 1 commits)) (sym compacted_commits))))
    whole_is none_at_whole
    (makes_json (Made (place_path (V2 0 6 true)) older_text (pos 3) ∷ compacting example) 1 7 whole_text whole_actions horizon older_published whole_means refl refl
    (ap (λ commits. fold (take 2 commits)) (sym older_commits)))

pub whole_commits : commits_of (history (checkpointing example)) ≡ first_actions ∷ second_actions ∷ []
whole_commits = ap commits_of (quiet (Made (place_path (V2 0 6 true)) older_text (pos 3) ∷ compacting example) (V2 1 7 true) whole_text (pos 4) whole_is (λ h. refl)) ∙ older_commits

whole_stands : Present (checkpointing example) (V2 1 7 true)
whole_stands = (whole_text, made_here (Made (place_path (V2 0 6 true)) older_text (pos 3) ∷ compacting example) (place_path (V2 1 7 true)) whole_text (pos 4) (V2 1 7 true) (place_of_path (V2 1 7 true) whole_is))

after_gone : (events : List Told) (place : Place) → IsPlace place → (place ≡ V2 1 7 true → ⊥) → Present events (V2 1 7 true) → Present (Deleted (place_path place) ∷ events) (V2 1 7 true)
after_gone events place is apart (held, holds) =
    (held, kept_deleted events (place_path place) (V2 1 7 true) held (λ at. apart (sym (place_of_path place is) ∙ at)) holds)

pub clearing_is_lawful : IsLawfulAfter clearing
clearing_is_lawful horizon =
    let commit_gone = after_gone (checkpointing example) (Commit_at 0) (omega arith) (λ is. let no : Commit_at 0 ≡ V2 1 7 true = is in cc) whole_stands in
    let compacted_gone = after_gone (Deleted (commit_path 0) ∷ checkpointing example) (Compacted 0 1) compacted_is (λ is. let no : Compacted 0 1 ≡ V2 1 7 true = is in cc) commit_gone in
    gone (Deleted (place_path (Compacted 0 1)) ∷ Deleted (commit_path 0) ∷ checkpointing example) (V2 0 6 true) horizon
    (gone (Deleted (commit_path 0) ∷ checkpointing example) (Compacted 0 1) horizon
    (gone (checkpointing example) (Commit_at 0) horizon (checkpointing_is_lawful horizon) (omega arith) ((1, (omega arith), inr (inl (7, (true, whole_stands)))), refl))
    compacted_is (1, (omega arith), inr (inl (7, (true, commit_gone)))))
    older_is (1, (omega arith), inr (inl (7, (true, compacted_gone))))

-- what the first deletion took is needed below version 1 alone
pub cleared_floor : ClearedFloor
cleared_floor = ((λ from. none_at_zero from.1.1.0), from_last (clearing example) (pos 0) (clearing_is_lawful (pos 0)) 1 (let long = ap length cleared_commits in let same = length_commits (history (clearing example)) in omega (arith, long, same)))
  where
    cleared_commits : commits_of (history (clearing example)) ≡ first_actions ∷ second_actions ∷ []
    cleared_commits = whole_commits

    none_at_zero : IsBelow (checkpointing example) (place_of (commit_path 0)) 0 → ⊥
    none_at_zero below = let (checkpoint, low, high, complete) = subst (λ place. IsBelow (checkpointing example) place 0) (commit_place 0 (omega arith)) below in omega arith
