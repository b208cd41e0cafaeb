-- The example goes on lawfully with the other kinds of events, and the events beside it may not come.
use Rattle.std.proofs.Common.{◌≡◌, ℕ, ℤ, pos, ◌≤◌, take, drop, List, [], ◌∷◌, ◌++◌, Option, Some, None, codes, refl, sym, ap, subst, ◌∙◌, arith, true≢false, inl, inr}
use Rattle.std.specs.Prelude.{IsNone}
use Rattle.dk_model.specs.declared.state.TableState.{TableState}
use Rattle.dk_model.specs.declared.action.Action.{Action}
use Rattle.dk_model.specs.declared.action.Protocol.{Protocol}
use Rattle.dk_model.specs.CommitText.{commit_of}
use Rattle.dk_model.specs.State.{steps, steps_of_all, empty_state}
use Rattle.dk_store.specs.Told.{Told, Made, Over, Ratified, Forgotten}
use Rattle.dk_store.specs.Objects.{object, content}
use Rattle.dk_paths.specs.Names.{commit_path}
use Rattle.dk_paths.specs.Places.{Place, Commit_at, Classic, V2, Compacted, Hint, Sidecar, Staged, Other, place_of, place_path, IsPlace}
use Rattle.dk_paths.specs.Staged.{staged_name}
use Rattle.dk_paths.proofs.PlaceLaws.{place_of_path}
use Rattle.dk_lawful.specs.Present.{Holds, AtMostPublished}
use Rattle.dk_lawful.specs.Managed.{is_managed}
use Rattle.dk_lawful.specs.History.{by_file, after_made, history, next_version, commits_of, state_of}
use Rattle.dk_lawful.specs.Permits.{Permits, MayMake, MayOver, MayDelete, Compacts}
use Rattle.dk_lawful.specs.Checkpoints.{IsTopOf}
use Rattle.dk_lawful.specs.Lawful.{Lawful}
use Rattle.dk_lawful.specs.Example.{first_text, first_actions, second_text, second_actions, first_event, example, IsForbidden}
use Rattle.dk_lawful.specs.MoreExamples.{IsLawfulAfter, compacting, hinting, staged_event, dropping, side_name, cleaning, storing, forgetting}
use Rattle.dk_lawful.proofs.OnTexts.{commits_on_literals, rules_on_literals}
use Rattle.dk_lawful.proofs.Standing.{commit_place, object_none, found_made, made_here}
use Rattle.dk_lawful.proofs.Example.{example_is_lawful, example_history, example_next, second_means, only_commits}
use Rattle.dk_lawful.proofs.Stays.{none_beyond_last}

-- a place at which nothing stands
pub free_at : (events : List Told) (place : Place) → IsPlace place → ((held : List ℕ) → Holds events place held → ⊥) → IsNone (object events (place_path place))
free_at events place is none = object_none events (place_path place) (by (content events (place_path place)) refl)
  where
    by : (found : Option (List ℕ)) → content events (place_path place) ≡ found → content events (place_path place) ≡ None
    by None same = same
    by (Some held) same = absurd (none held (record { path = place_path place; is_place = place_of_path place is; has_bytes = same }))

-- an object may be made at a free place of the example
may_make : (place : Place) (bytes : List ℕ) (stamp horizon : ℤ) → IsPlace place → ((version : ℕ) → Commit_at version ≡ place → ⊥) → MayMake example place bytes horizon
    → Lawful (Made (place_path place) bytes stamp ∷ example) horizon
may_make place bytes stamp horizon is none may = (
  (
    free_at example place is (λ held holds. let only = only_commits place held holds in none only.0 only.1),
    subst (λ p. MayMake example p bytes horizon) (sym (place_of_path place is)) may,
  ),
  example_is_lawful horizon,
)

pub example_published : AtMostPublished example 1
example_published = (1, (omega arith), (second_text, made_here (first_event ∷ []) (commit_path 1) second_text (pos 1) (Commit_at 1) (commit_place 1 (omega arith))))

pub example_commits : commits_of (history example) ≡ first_actions ∷ second_actions ∷ []
example_commits = ap commits_of example_history

both_mean : commit_of (first_text ++ second_text) ≡ Some (first_actions ++ second_actions)
unfolding commits_on_literals first_text second_text
both_mean = refl

pub compacting_is_lawful : IsLawfulAfter compacting
compacting_is_lawful horizon =
    may_make (Compacted 0 1) (first_text ++ second_text) (pos 2) horizon ((omega arith), (omega arith)) (λ version is. let no : Commit_at version ≡ Compacted 0 1 = is in cc) (record {
      longer = omega arith;
      published = example_published;
      actions = first_actions ++ second_actions;
      means = both_mean;
      sums = λ state. ap (λ cs. steps_of_all state (drop 0 (take 2 cs))) (sym example_commits);
    })

pub hinting_is_lawful : IsLawfulAfter hinting
hinting_is_lawful horizon = (
  subst (MayDelete (Over (place_path Hint) (codes "{}") (pos 3) ∷ Made (place_path Hint) (codes "{") (pos 2) ∷ example)) (sym (place_of_path Hint tt)) tt,
  (
    subst MayOver (sym (place_of_path Hint tt)) tt,
    may_make Hint (codes "{") (pos 2) horizon tt (λ version is. let no : Commit_at version ≡ Hint = is in cc) tt,
  ),
)

staged_is_place : IsPlace (Staged 2 7)
staged_is_place = record { version_small = omega arith; id_small = omega arith }

pub dropping_is_lawful : IsLawfulAfter dropping
dropping_is_lawful horizon = (
  subst (MayDelete (staged_event ∷ example)) (sym (place_of_path (Staged 2 7) staged_is_place))
      (inl (λ version stands. let no : ◌≡◌ {A = Option (List ℕ)} None (Some (staged_name 2 7)) = stands in cc)),
  may_make (Staged 2 7) second_text (pos 2) horizon staged_is_place (λ version is. let no : Commit_at version ≡ Staged 2 7 = is in cc) (let next = example_next in omega arith),
)

no_top_commit : (place : Place) (version other : ℕ) → IsTopOf place version → Commit_at other ≡ place → ⊥
no_top_commit (Classic v) version other top is = let no : Commit_at other ≡ Classic v = is in cc
no_top_commit (V2 v id json) version other top is = let no : Commit_at other ≡ V2 v id json = is in cc
no_top_commit _ version other top is = absurd top

no_top_side : (place : Place) (version : ℕ) (name : List ℕ) → IsTopOf place version → Sidecar name ≡ place → ⊥
no_top_side (Classic v) version name top is = let no : Sidecar name ≡ Classic v = is in cc
no_top_side (V2 v id json) version name top is = let no : Sidecar name ≡ V2 v id json = is in cc
no_top_side _ version name top is = absurd top

side_is_place : IsPlace (Sidecar side_name)
side_is_place = refl

pub cleaning_is_lawful : IsLawfulAfter cleaning
cleaning_is_lawful horizon = (
  subst (MayDelete (Made (place_path (Sidecar side_name)) (codes "s") (pos 2) ∷ example)) (sym (place_of_path (Sidecar side_name) side_is_place)) unnamed,
  may_make (Sidecar side_name) (codes "s") (pos 2) horizon side_is_place (λ version is. let no : Commit_at version ≡ Sidecar side_name = is in cc) tt,
)
  where
    unnamed : MayDelete (Made (place_path (Sidecar side_name)) (codes "s") (pos 2) ∷ example) (Sidecar side_name)
    unnamed place (version, top, (bytes, holds, names)) = elim (found_made example (place_path (Sidecar side_name)) (codes "s") (pos 2) place bytes holds) [
      | inl (here, is) ↦ no_top_side place version side_name top (sym (place_of_path (Sidecar side_name) side_is_place) ∙ here)
      | inr before ↦ let only = only_commits place bytes before in no_top_commit place version only.0 top only.1
    ]

data_is_place : IsPlace (Other (codes "a"))
unfolding place_of
data_is_place = refl

pub storing_is_lawful : IsLawfulAfter storing
storing_is_lawful horizon = (
  subst (MayDelete (Over (codes "a") (codes "y") (pos 3) ∷ Made (codes "a") (codes "x") (pos 2) ∷ example)) (sym data_is_place) tt,
  (
    subst MayOver (sym data_is_place) tt,
    may_make (Other (codes "a")) (codes "x") (pos 2) horizon data_is_place (λ version is. let no : Commit_at version ≡ Other (codes "a") = is in cc) tt,
  ),
)

pub forgetting_is_lawful : IsLawfulAfter forgetting
forgetting_is_lawful horizon = (example_published, example_is_lawful horizon)

-- ---- what may not come

pub at_place : (place : Place) (bytes : List ℕ) (stamp horizon : ℤ) → IsPlace place → Permits example (Made (place_path place) bytes stamp) horizon → MayMake example place bytes horizon
at_place place bytes stamp horizon is may = subst (λ p. MayMake example p bytes horizon) (place_of_path place is) may.1

pub unpublished : (version : ℕ) → 2 ≤ version → AtMostPublished example version → ⊥
unpublished version most (last, high, at) =
    let below = none_beyond_last example (pos 0) (example_is_lawful (pos 0)) last (inl at) in
    let next = example_next in
    omega arith

pub wrong_sum : IsForbidden example (Made (place_path (Compacted 0 1)) second_text (pos 2))
wrong_sum horizon may =
    let compacts : Compacts example 0 1 second_text = at_place (Compacted 0 1) second_text (pos 2) horizon ((omega arith), (omega arith)) may in
    let same : compacts.actions ≡ second_actions = (let both : Some compacts.actions ≡ Some second_actions = sym compacts.means ∙ second_means in cc) in
    let lost : ◌≡◌ {A = TableState} (steps empty_state second_actions) (steps_of_all empty_state (first_actions ∷ second_actions ∷ [])) =
    ap (steps empty_state) (sym same) ∙ compacts.sums empty_state ∙ ap (λ cs. steps_of_all empty_state (drop 0 (take 2 cs))) example_commits in
    none_is_some _ (ap (λ (s : TableState). s.protocol) lost)
  where
    none_is_some : (p : Protocol) → ◌≡◌ {A = Option Protocol} None (Some p) → ⊥
    none_is_some p is = cc

unreadable_text : commit_of (codes "{") ≡ None
unfolding commits_on_literals
unreadable_text = refl

pub unreadable_sum : IsForbidden example (Made (place_path (Compacted 0 1)) (codes "{") (pos 2))
unreadable_sum horizon may =
    let compacts : Compacts example 0 1 (codes "{") = at_place (Compacted 0 1) (codes "{") (pos 2) horizon ((omega arith), (omega arith)) may in
    none_is_some compacts.actions (sym unreadable_text ∙ compacts.means)
  where
    none_is_some : (actions : List Action) → ◌≡◌ {A = Option (List Action)} None (Some actions) → ⊥
    none_is_some actions is = cc

pub sum_beyond : IsForbidden example (Made (place_path (Compacted 1 2)) second_text (pos 2))
sum_beyond horizon may =
    let compacts : Compacts example 1 2 second_text = at_place (Compacted 1 2) second_text (pos 2) horizon ((omega arith), (omega arith)) may in
    unpublished 2 (omega arith) compacts.published

pub staged_below : IsForbidden example (Made (place_path (Staged 1 7)) second_text (pos 2))
staged_below horizon may =
    let most : next_version example ≤ 1 = at_place (Staged 1 7) second_text (pos 2) horizon (record { version_small = omega arith; id_small = omega arith }) may in
    let next = example_next in
    omega arith

pub unmanaged_ratified : IsForbidden (staged_event ∷ example) (Ratified 2 (staged_name 2 7))
unfolding rules_on_literals
unmanaged_ratified horizon may =
    let same : history (staged_event ∷ example) ≡ by_file first_actions ∷ by_file second_actions ∷ [] =
    ap (λ (place : Place). after_made (history example) place second_text) (place_of_path (Staged 2 7) staged_is_place) ∙ example_history in
    true≢false (sym may.by_catalogue ∙ ap (λ h. is_managed (state_of h)) same)

pub forgotten_early : IsForbidden example (Forgotten 2)
forgotten_early horizon may = unpublished 2 (omega arith) may
