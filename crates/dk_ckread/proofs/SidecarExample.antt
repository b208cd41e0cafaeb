-- A sidecar goes after its checkpoint, and one with other rows makes no checkpoint.
use Rattle.std.proofs.Common.{◌≡◌, ℕ, pos, ◌<◌, true, ◌⊎◌, inl, inr, take, List, [], ◌∷◌, ◌++◌, Option, Some, None, option_map, refl, sym, ap, subst, ◌∙◌, arith, true≢false, if◌then◌else◌}
use Rattle.std.specs.List.{list_all}
use Rattle.percent_encoding.specs.Percent.{percent_decode}
use Rattle.dk_model.specs.declared.action.Action.{Action}
use Rattle.dk_model.specs.CheckpointObjects.{checkpoint_meta_of, sidecar_of}
use Rattle.dk_model.specs.CommitText.{commit_of}
use Rattle.dk_model.specs.InfoObject.{info_of}
use Rattle.dk_model.specs.State.{fold}
use Rattle.dk_store.specs.Told.{Told, Stored, Made, Deleted}
use Rattle.dk_store.specs.Objects.{object, content}
use Rattle.dk_paths.specs.Names.{commit_path}
use Rattle.dk_paths.specs.Places.{Place, Commit_at, V2, Sidecar, IsPlace, place_path}
use Rattle.dk_paths.proofs.PlaceLaws.{place_of_path}
use Rattle.dk_lawful.specs.BacklogExample.{mark_text_2}
use Rattle.dk_lawful.specs.BrokenRules.{informing_text, informing_actions}
use Rattle.dk_lawful.specs.CheckpointExample.{mark_text_1, side_text}
use Rattle.dk_lawful.specs.Checkpoints.{InParquet, sidecar_of_path, sidecars_of, Among, IsTopOf, Names, NamesSidecar, SidesMean, is_file_action}
use Rattle.dk_lawful.specs.Example.{first_text, first_actions, second_text, second_actions, example, IsForbidden}
use Rattle.dk_lawful.specs.History.{by_file, history, commits_of}
use Rattle.dk_lawful.specs.MoreExamples.{IsLawfulAfter, side_name}
use Rattle.dk_lawful.specs.Permits.{MayMake, AddsCommit, MakesTop}
use Rattle.dk_lawful.specs.Present.{Holds}
use Rattle.dk_lawful.proofs.CheckpointExample.{OnlyAt, also_at, made, gone, quiet, makes_json, names_these}
use Rattle.dk_lawful.proofs.Example.{adds, permitted, example_history}
use Rattle.dk_lawful.proofs.OneMeaning.{actions_in_parquet}
use Rattle.dk_lawful.proofs.OnTexts.{commits_on_literals, rules_on_literals}
use Rattle.dk_lawful.proofs.SoundMade.{adds_itself}
use Rattle.dk_lawful.proofs.Standing.{commit_place, text_refl, path_at, found_deleted, made_here, held_once}
use Rattle.dk_pqread.proofs.OneList.{one_list}
use Rattle.dk_ckread.specs.ParquetExample.{sidecar_made, top_text, with_sidecar}
use Rattle.dk_ckread.specs.ParquetFiles.{add_file, head_file}
use Rattle.dk_ckread.specs.SidecarExample.{informed, newer_text, newer_actions, renewed, older_gone, sidecar_gone, other_sidecar, other_text, other_actions}
use Rattle.dk_ckread.proofs.ParquetExample.{head_has, IsCommitPlace, side_place, top_place, only_side, with_sidecar_is_lawful}

-- ---- texts

informing_means : commit_of informing_text ≡ Some informing_actions
unfolding commits_on_literals info_of informing_text
informing_means = refl

newer_means : commit_of newer_text ≡ Some newer_actions
unfolding commits_on_literals checkpoint_meta_of mark_text_2 first_text second_text
newer_means = refl

other_means : commit_of other_text ≡ Some other_actions
unfolding commits_on_literals checkpoint_meta_of sidecar_of mark_text_1 second_text side_text
other_means = refl

names_side : sidecars_of other_actions ≡ Some (side_name ∷ [])
unfolding sidecar_of_path percent_decode commits_on_literals
names_side = refl

-- ---- a further commit

side_history : history (sidecar_made example) ≡ by_file first_actions ∷ by_file second_actions ∷ []
side_history = quiet example (Sidecar side_name) add_file (pos 2) side_place (λ h. refl) ∙ example_history

top_history : history (with_sidecar example) ≡ by_file first_actions ∷ by_file second_actions ∷ []
top_history = quiet (sidecar_made example) (V2 1 7 true) top_text (pos 3) top_place (λ h. refl) ∙ side_history

informing_adds : AddsCommit (with_sidecar example) 2 informing_text
unfolding rules_on_literals
informing_adds = adds (with_sidecar example) (by_file first_actions ∷ by_file second_actions ∷ []) 2 informing_text informing_actions top_history refl refl refl informing_means

informed_is_lawful : IsLawfulAfter informed
informed_is_lawful horizon =
    (permitted (with_sidecar example) horizon 2 informing_text (pos 4) (omega arith) (with_sidecar_is_lawful horizon) informing_adds, with_sidecar_is_lawful horizon)

informed_history : history (informed example) ≡ by_file first_actions ∷ by_file second_actions ∷ by_file informing_actions ∷ []
unfolding informing_adds adds
informed_history =
    adds_itself (with_sidecar example) (commit_path 2) informing_text (pos 4) 2 (commit_place 2 (omega arith)) informing_adds ∙ ap (λ h. h ++ by_file informing_actions ∷ []) top_history

informed_commits : commits_of (history (informed example)) ≡ first_actions ∷ second_actions ∷ informing_actions ∷ []
informed_commits = ap commits_of informed_history

-- ---- its checkpoint

newer_place : IsPlace (V2 2 8 true)
newer_place = ((omega arith), (omega arith))

abbrev AtSide : Place → Type 0
AtSide place = (Sidecar side_name ≡ place) ⊎ IsCommitPlace place

abbrev AtTop : Place → Type 0
AtTop place = (V2 1 7 true ≡ place) ⊎ AtSide place

abbrev AtInformed : Place → Type 0
AtInformed place = (Commit_at 2 ≡ place) ⊎ AtTop place

only_top : OnlyAt (with_sidecar example) AtTop
only_top = also_at (sidecar_made example) AtSide (V2 1 7 true) top_text (pos 3) top_place only_side

only_informed : OnlyAt (informed example) AtInformed
only_informed = also_at (with_sidecar example) AtTop (Commit_at 2) informing_text (pos 4) (omega arith) only_top

only_renewed : OnlyAt (renewed example) (λ place. (V2 2 8 true ≡ place) ⊎ AtInformed place)
only_renewed = also_at (informed example) AtInformed (V2 2 8 true) newer_text (pos 5) newer_place only_informed

other_version : (a b c d : ℕ) → a < b → V2 a c true ≡ V2 b d true → ⊥
other_version a b c d less is = let same : a ≡ b = cc in omega (arith, less, same)

none_at_newer : (held : List ℕ) → Holds (informed example) (V2 2 8 true) held → ⊥
none_at_newer held holds = elim (only_informed (V2 2 8 true) held holds) [
  | inl is ↦ let no : Commit_at 2 ≡ V2 2 8 true = is in cc
  | inr rest ↦ elim rest [
    | inl is ↦ other_version 1 2 7 8 (omega arith) is
    | inr more ↦ elim more [
      | inl is ↦ let no : Sidecar side_name ≡ V2 2 8 true = is in cc
      | inr (version, is) ↦ let no : Commit_at version ≡ V2 2 8 true = is in cc
    ]
  ]
]

last_holds : Holds (informed example) (Commit_at 2) informing_text
last_holds = made_here (with_sidecar example) (commit_path 2) informing_text (pos 4) (Commit_at 2) (commit_place 2 (omega arith))

renewed_is_lawful : IsLawfulAfter renewed
renewed_is_lawful horizon =
    made (informed example) (V2 2 8 true) newer_text (pos 5) horizon (informed_is_lawful horizon) newer_place none_at_newer
    (makes_json (informed example) 2 8 newer_text newer_actions horizon (2, (omega arith), (informing_text, last_holds)) newer_means refl refl (ap (λ commits. fold (take 3 commits)) (sym informed_commits)))

-- ---- the older checkpoint goes, and then its sidecar

newer_holds : Holds (renewed example) (V2 2 8 true) newer_text
newer_holds = made_here (informed example) (place_path (V2 2 8 true)) newer_text (pos 5) (V2 2 8 true) (place_of_path (V2 2 8 true) newer_place)

older_gone_is_lawful : IsLawfulAfter older_gone
older_gone_is_lawful horizon = gone (renewed example) (V2 1 7 true) horizon (renewed_is_lawful horizon) top_place (2, (omega arith), inr (inl (8, (true, (newer_text, newer_holds)))))

-- nothing stands where it was deleted
gone_from : (events : List Told) (place : Place) (held : List ℕ) → Holds (Deleted (place_path place) ∷ events) place held → ⊥
gone_from events place held holds =
    let found : content (Deleted (place_path place) ∷ events) (place_path place) ≡ Some held = subst (λ (path : List ℕ). content (Deleted (place_path place) ∷ events) path ≡ Some held) (path_at holds.path place holds.is_place) holds.has_bytes in
    let none : content (Deleted (place_path place) ∷ events) (place_path place) ≡ None = ap (λ (same : _). option_map (λ (o : Stored). o.bytes) (if same then None else object events (place_path place))) (text_refl (place_path place)) in
    let no : ◌≡◌ {A = Option (List ℕ)} None (Some held) = sym none ∙ found in cc

newer_names_none : (bytes : List ℕ) → Holds (renewed example) (V2 2 8 true) bytes → NamesSidecar (V2 2 8 true) bytes side_name → ⊥
newer_names_none bytes holds (top, means, among) =
    let same : bytes ≡ newer_text = held_once (renewed example) (V2 2 8 true) bytes newer_text holds newer_holds in
    let none : top.sidecars ≡ [] = names_these bytes newer_actions [] top (ap commit_of same ∙ newer_means) refl means.0 in
    absurd (subst (Among side_name) none among)

unnamed : (place : Place) → Names (older_gone example) place side_name → ⊥
unnamed place (version, top, (bytes, holds, names)) = elim (only_renewed place bytes (found_deleted (renewed example) (place_path (V2 1 7 true)) place bytes holds)) [
  | inl is ↦
      newer_names_none bytes (subst (λ p. Holds (renewed example) p bytes) (sym is) (found_deleted (renewed example) (place_path (V2 1 7 true)) place bytes holds))
      (subst (λ p. NamesSidecar p bytes side_name) (sym is) names)
  | inr rest ↦ elim rest [
    | inl is ↦ absurd (subst (λ p. IsTopOf p version) (sym is) top)
    | inr more ↦ elim more [
      | inl is ↦ gone_from (renewed example) (V2 1 7 true) bytes (subst (λ p. Holds (older_gone example) p bytes) (sym is) holds)
      | inr least ↦ elim least [
        | inl is ↦ absurd (subst (λ p. IsTopOf p version) (sym is) top)
        | inr (other, is) ↦ absurd (subst (λ p. IsTopOf p version) (sym is) top)
      ]
    ]
  ]
]

pub sidecar_gone_is_lawful : IsLawfulAfter sidecar_gone
sidecar_gone_is_lawful horizon = gone (older_gone example) (Sidecar side_name) horizon (older_gone_is_lawful horizon) side_place unnamed

-- ---- a sidecar with other rows

side_holds : Holds (other_sidecar example) (Sidecar side_name) head_file
side_holds = made_here example (place_path (Sidecar side_name)) head_file (pos 2) (Sidecar side_name) (place_of_path (Sidecar side_name) side_place)

no_files : (sides : List Action) → SidesMean (other_sidecar example) (side_name ∷ []) sides → ⊥
no_files sides (bytes, own, rest, holds, means, more, all) =
    let same : bytes ≡ head_file = held_once (other_sidecar example) (Sidecar side_name) bytes head_file holds side_holds in
    let is : own ≡ first_actions = actions_in_parquet one_list bytes own first_actions means.0 (subst (λ b. InParquet b first_actions) (sym same) head_has) in
    true≢false (sym means.1 ∙ ap (list_all is_file_action) is)

pub other_rows : IsForbidden (other_sidecar example) (Made (place_path (V2 1 7 true)) other_text (pos 3))
other_rows horizon may =
    let makes : MakesTop (other_sidecar example) (V2 1 7 true) 1 other_text horizon = subst (λ (place : Place). MayMake (other_sidecar example) place other_text horizon) (place_of_path (V2 1 7 true) top_place) may.1 in
    let named : makes.top.sidecars ≡ side_name ∷ [] = names_these other_text other_actions (side_name ∷ []) makes.top other_means names_side makes.means.0 in
    no_files makes.sides (subst (λ names. SidesMean (other_sidecar example) names makes.sides) named makes.sides_mean)
