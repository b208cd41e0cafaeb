-- An id stands at most once, where each event adds it only to a history without it.
use Rattle.std.proofs.Common.{◌≡◌, ℕ, zero, suc, ◌≤◌, ◌⊎◌, inl, inr, length, List, [], ◌∷◌, ◌++◌, Option, Some, None, slice_get, refl, sym, ap, subst, ◌∙◌, arith, append-nil}
use Rattle.dk_store.specs.Told.{Told}
use Rattle.dk_lawful.specs.History.{RatifiedCommit, history}
use Rattle.dk_lawful.specs.Ids.{SaysId, HasId, StandsOnce, AddsId, IdsStandOnce, IdsStay, IdsAreNoMore, AddedStandsAt, StandsAtForGood}
use Rattle.dk_lawful.proofs.Lists.{slice_get-end}
use Rattle.dk_lawful.proofs.Structure.{grows_by_one, commits_stay}

-- what one event makes of the ids at versions: none is new, or one at the end
pub data Adds (events : List Told) (event : Told) : Type 0 where
  none : history (event ∷ events) ≡ history events → Adds events event
  one : (commit : RatifiedCommit) → history (event ∷ events) ≡ history events ++ commit ∷ [] → Adds events event

pub adds_at_most : (events : List Told) (event : Told) → Adds events event
adds_at_most events event = let grown = grows_by_one event events in by grown.more grown.is grown.one
  where
    by : (more : List RatifiedCommit) → history (event ∷ events) ≡ history events ++ more → length more ≤ 1 → Adds events event
    by [] is few = none (is ∙ append-nil (history events))
    by (commit ∷ []) is few = one commit is
    by (commit ∷ other ∷ more) is few = absurd (omega arith)

-- an element of a list that is longer by one is one of the list, or the last
of_longer : {A : Type 0} (xs : List A) (x found : A) (i : ℕ) → slice_get (xs ++ x ∷ []) i ≡ Some found → (slice_get xs i ≡ Some found) ⊎ ((i ≡ length xs) × (x ≡ found))
of_longer [] x found zero is = inr (refl, cc)
of_longer [] x found (suc i) is = absurd (let no : ◌≡◌ {A = Option _} None (Some found) = is in cc)
of_longer (y ∷ xs) x found zero is = inl is
of_longer (y ∷ xs) x found (suc i) is = elim (of_longer xs x found i is) [ inl before ↦ inl before | inr (last, same) ↦ inr (ap suc last, same) ]

-- a version that has an id had it, or is the last one, whose commit is new
pub had_id : (events : List Told) (event : Told) (version : ℕ) (id : List ℕ) → HasId (history (event ∷ events)) version id
    → HasId (history events) version id ⊎ ((version ≡ length (history events)) × AddsId events event id)
had_id events event version id (commit, is, says) = by (adds_at_most events event)
  where
    by : Adds events event → HasId (history events) version id ⊎ ((version ≡ length (history events)) × AddsId events event id)
    by (none same) = inl (commit, ap (λ h. slice_get h version) (sym same) ∙ is, says)
    by (one new longer) = elim (of_longer (history events) new commit version (ap (λ h. slice_get h version) (sym longer) ∙ is)) [
      | inl before ↦ inl (commit, before, says)
      | inr (last, same) ↦ inr (last, (new, longer, subst (SaysId id) (sym same) says))
    ]

once_more : (events : List Told) (event : Told) (id : List ℕ) → (AddsId events event id → (version : ℕ) → HasId (history events) version id → ⊥)
    → StandsOnce events id → StandsOnce (event ∷ events) id
once_more events event id adds once version other has has_other = elim (had_id events event version id has) [
  | inl before ↦ elim (had_id events event other id has_other) [
    | inl before_other ↦ once version other before before_other
    | inr (last, new) ↦ absurd (adds new version before)
  ]
  | inr (last, new) ↦ elim (had_id events event other id has_other) [
    | inl before_other ↦ absurd (adds new other before_other)
    | inr (last_other, new_other) ↦ last ∙ sym last_other
  ]
]

pub ids_stand_once : IdsStandOnce
ids_stand_once [] events id adds once = once
ids_stand_once (event ∷ newer) events id adds once = once_more (newer ++ events) event id adds.0 (ids_stand_once newer events id adds.1 once)

pub ids_stay : IdsStay
ids_stay newer events version id (commit, is, says) = (commit, commits_stay newer events version commit is, says)

pub ids_are_no_more : IdsAreNoMore
ids_are_no_more [] events version id without has = has
ids_are_no_more (event ∷ newer) events version id without has = elim (had_id (newer ++ events) event version id has) [
  | inl before ↦ ids_are_no_more newer events version id without.1 before
  | inr (last, new) ↦ absurd (without.0 new)
]

pub added_stands_at : AddedStandsAt
added_stands_at events later commit id nowhere more says = record {
  has = (commit, ap (λ h. slice_get h (length (history events))) more ∙ slice_get-end (history events) commit, says);
  alone = λ other (found, is, has). elim (of_longer (history events) commit found other (ap (λ h. slice_get h other) (sym more) ∙ is)) [
    | inl before ↦ absurd (nowhere other (found, before, has))
    | inr (last, same) ↦ last
  ];
}

pub stands_at_for_good : StandsAtForGood
stands_at_for_good newer events version id without stands = record {
  has = ids_stay newer events version id stands.has;
  alone = λ other has. stands.alone other (ids_are_no_more newer events other id without has);
}
