-- The backlog is lawful, and two events beside it lack one condition each.
use Rattle.std.proofs.Common.{◌≡◌, ℕ, zero, suc, ℤ, pos, ◌≤◌, ◌⊎◌, inl, inr, true, List, [], ◌∷◌, ◌++◌, Option, Some, None, length, take, refl, sym, ap, subst, ◌∙◌, arith}
use Rattle.dk_model.specs.CommitText.{commit_of}
use Rattle.dk_model.specs.CheckpointObjects.{checkpoint_meta_of}
use Rattle.dk_model.specs.InfoObject.{info_of}
use Rattle.dk_model.specs.State.{fold}
use Rattle.dk_store.specs.Told.{Made, Deleted, Forgotten}
use Rattle.dk_paths.specs.Names.{commit_path}
use Rattle.dk_paths.specs.Places.{Place, Commit_at, V2, Staged, IsPlace, place_path}
use Rattle.dk_paths.specs.Staged.{staged_name}
use Rattle.dk_paths.proofs.PlaceLaws.{place_of_path}
use Rattle.dk_lawful.specs.Present.{Holds, Present, IsLastPublished, AtMostPublished}
use Rattle.dk_lawful.specs.Managed.{is_managed}
use Rattle.dk_lawful.specs.History.{by_file, by_catalogue, history, commits_of, state_of}
use Rattle.dk_lawful.specs.Permits.{MayMake, MayDelete, RatifiesCommit, Backfills}
use Rattle.dk_lawful.specs.Lawful.{Lawful}
use Rattle.dk_lawful.specs.Example.{IsForbidden}
use Rattle.dk_lawful.specs.ManagedExample.{founding_text, founding_actions, adding_text, adding_actions, staged_twice, catalogued}
use Rattle.dk_lawful.specs.BacklogExample.{next_text, next_actions, next_staged, both_ratified, one_published, both_published, mark_text_2, backlog_text, whole_actions, covered, BacklogIsLawful}
use Rattle.dk_lawful.proofs.OnTexts.{commits_on_literals, rules_on_literals}
use Rattle.dk_lawful.proofs.Standing.{commit_place, found_made, kept_made, made_here, held_at, held_ratified, was_ratified, held_forgotten}
use Rattle.dk_lawful.proofs.Example.{broken_after}
use Rattle.dk_lawful.proofs.MoreExamples.{free_at}
use Rattle.dk_lawful.proofs.CheckpointExample.{OnlyAt, also_at, made, gone, quiet, makes_json}
use Rattle.dk_lawful.proofs.ManagedExample.{IsFirst, is_5, only_catalogued, staged_7, catalogued_is_lawful, catalogued_history, first_stands}
use Rattle.dk_lawful.proofs.SoundMade.{backfill_adds}
use Rattle.dk_lawful.proofs.SoundOthers.{ratifies_itself, lawful_is_sound}

next_means : commit_of next_text ≡ Some next_actions
unfolding commits_on_literals info_of next_text
next_means = refl

whole_means : commit_of backlog_text ≡ Some whole_actions
unfolding commits_on_literals info_of checkpoint_meta_of mark_text_2 founding_text adding_text next_text
whole_means = refl

-- ---- the second ratification

abbrev AtCatalogued : Place → Type 0
AtCatalogued place = (Staged 1 8 ≡ place) ⊎ ((Staged 1 7 ≡ place) ⊎ IsFirst place)

abbrev AtNext : Place → Type 0
AtNext place = (Staged 2 5 ≡ place) ⊎ AtCatalogued place

none_at_next : (held : List ℕ) → Holds catalogued (Staged 2 5) held → ⊥
none_at_next held holds = elim (only_catalogued (Staged 2 5) held holds) [
  | inl is ↦ other_staged 8 is
  | inr rest ↦ elim rest [ inl is ↦ other_staged 7 is | inr is ↦ let no : Commit_at 0 ≡ Staged 2 5 = is in cc ]
]
  where
    other_staged : (id : ℕ) → Staged 1 id ≡ Staged 2 5 → ⊥
    other_staged id is = let same : ◌≡◌ {A = ℕ} 1 2 = cc in omega arith

next_staged_is_lawful : (horizon : ℤ) → Lawful next_staged horizon
next_staged_is_lawful horizon = made catalogued (Staged 2 5) next_text (pos 4) horizon (catalogued_is_lawful horizon) is_5 none_at_next (let long = ap length catalogued_history in omega (arith, long))

next_staged_history : history next_staged ≡ by_file founding_actions ∷ by_catalogue adding_actions ∷ []
next_staged_history = quiet catalogued (Staged 2 5) next_text (pos 4) is_5 (λ h. refl) ∙ catalogued_history

is_managed_then : is_managed (state_of (by_file founding_actions ∷ by_catalogue adding_actions ∷ [])) ≡ true
unfolding rules_on_literals
is_managed_then = refl

next_is_valid : broken_after (by_file founding_actions ∷ by_catalogue adding_actions ∷ []) next_actions ≡ None
unfolding rules_on_literals
next_is_valid = refl

next_held : Holds next_staged (Staged 2 5) next_text
next_held = made_here catalogued (place_path (Staged 2 5)) next_text (pos 4) (Staged 2 5) (place_of_path (Staged 2 5) is_5)

next_ratifies : RatifiesCommit next_staged 2 (staged_name 2 5)
next_ratifies = record {
  next = sym (ap length next_staged_history);
  by_catalogue = ap (λ h. is_managed (state_of h)) next_staged_history ∙ is_managed_then;
  id = 5;
  is_name = refl;
  bytes = next_text;
  staged = next_held;
  actions = next_actions;
  means = next_means;
  valid = ap (λ h. broken_after h next_actions) next_staged_history ∙ next_is_valid;
}

both_ratified_is_lawful : (horizon : ℤ) → Lawful both_ratified horizon
both_ratified_is_lawful horizon = (next_ratifies, next_staged_is_lawful horizon)

ratified_history : history both_ratified ≡ by_file founding_actions ∷ by_catalogue adding_actions ∷ by_catalogue next_actions ∷ []
unfolding next_ratifies
ratified_history = ratifies_itself next_staged 2 (staged_name 2 5) next_ratifies ∙ ap (λ h. h ++ by_catalogue next_actions ∷ []) next_staged_history

only_ratified : OnlyAt both_ratified AtNext
only_ratified place held holds = also_at catalogued AtCatalogued (Staged 2 5) next_text (pos 4) is_5 only_catalogued place held (was_ratified next_staged 2 (staged_name 2 5) place held holds)

-- ---- published one after the other

unpublished : (version : ℕ) → 1 ≤ version → (held : List ℕ) → Holds both_ratified (Commit_at version) held → ⊥
unpublished version past held holds = elim (only_ratified (Commit_at version) held holds) [
  | inl is ↦ let no : Staged 2 5 ≡ Commit_at version = is in cc
  | inr rest ↦ elim rest [
    | inl is ↦ let no : Staged 1 8 ≡ Commit_at version = is in cc
    | inr more ↦ elim more [
      | inl is ↦ let no : Staged 1 7 ≡ Commit_at version = is in cc
      | inr is ↦ let same : 0 ≡ version = (let at : Commit_at 0 ≡ Commit_at version = is in cc) in omega (arith, same, past)
    ]
  ]
]

-- what stood before the second ratification stands after it
kept_on : (place : Place) (held : List ℕ) → Holds catalogued place held → Holds both_ratified place held
kept_on place held holds =
    held_ratified next_staged 2 (staged_name 2 5) place held (kept_made catalogued (place_path (Staged 2 5)) next_text (pos 4) place held (free_at catalogued (Staged 2 5) is_5 none_at_next) holds)

first_is_last : IsLastPublished both_ratified (Some 0)
first_is_last = ((first_stands.0, kept_on (Commit_at 0) first_stands.0 first_stands.1), λ version at. by version at)
  where
    by : (version : ℕ) → Present both_ratified (Commit_at version) → version ≤ 0
    by zero at = omega arith
    by (suc version) (held, holds) = absurd (unpublished (suc version) (omega arith) held holds)

adding_backfills : Backfills both_ratified 1 adding_text
adding_backfills = record {
  last = 0;
  published = first_is_last;
  next = refl;
  name = staged_name 1 7;
  stands = refl;
  staged = held_at both_ratified (Staged 1 7) adding_text (kept_on (Staged 1 7) adding_text (held_ratified staged_twice 1 (staged_name 1 7) (Staged 1 7) adding_text staged_7));
}

none_at_1 : (held : List ℕ) → Holds both_ratified (Commit_at 1) held → ⊥
none_at_1 held holds = unpublished 1 (omega arith) held holds

one_published_is_lawful : (horizon : ℤ) → Lawful one_published horizon
one_published_is_lawful horizon = made both_ratified (Commit_at 1) adding_text (pos 5) horizon (both_ratified_is_lawful horizon) (omega arith) none_at_1 (inr adding_backfills)

only_published : OnlyAt one_published (λ place. (Commit_at 1 ≡ place) ⊎ AtNext place)
only_published = also_at both_ratified AtNext (Commit_at 1) adding_text (pos 5) (omega arith) only_ratified

beyond : (version : ℕ) → 2 ≤ version → (held : List ℕ) → Holds one_published (Commit_at version) held → ⊥
beyond version past held holds = elim (found_made both_ratified (commit_path 1) adding_text (pos 5) (Commit_at version) held holds) [
  | inl (at, is) ↦ let same : 1 ≡ version = (let places : Commit_at 1 ≡ Commit_at version = sym (commit_place 1 (omega arith)) ∙ at in cc) in omega (arith, same, past)
  | inr before ↦ unpublished version (omega arith) held before
]

second_is_last : IsLastPublished one_published (Some 1)
second_is_last = ((adding_text, made_here both_ratified (commit_path 1) adding_text (pos 5) (Commit_at 1) (commit_place 1 (omega arith))), λ version at. by version at)
  where
    by : (version : ℕ) → Present one_published (Commit_at version) → version ≤ 1
    by zero at = omega arith
    by (suc zero) at = omega arith
    by (suc (suc version)) (held, holds) = absurd (beyond (suc (suc version)) (omega arith) held holds)

next_backfills : Backfills one_published 2 next_text
next_backfills = record {
  last = 1;
  published = second_is_last;
  next = refl;
  name = staged_name 2 5;
  stands = refl;
  staged = held_at one_published (Staged 2 5) next_text
      (kept_made both_ratified (commit_path 1) adding_text (pos 5) (Staged 2 5) next_text (free_at both_ratified (Commit_at 1) (omega arith) none_at_1)
      (held_ratified next_staged 2 (staged_name 2 5) (Staged 2 5) next_text next_held));
}

none_at_2 : (held : List ℕ) → Holds one_published (Commit_at 2) held → ⊥
none_at_2 held holds = beyond 2 (omega arith) held holds

both_published_is_lawful : (horizon : ℤ) → Lawful both_published horizon
both_published_is_lawful horizon = made one_published (Commit_at 2) next_text (pos 6) horizon (one_published_is_lawful horizon) (omega arith) none_at_2 (inr next_backfills)

published_history : history both_published ≡ by_file founding_actions ∷ by_catalogue adding_actions ∷ by_catalogue next_actions ∷ []
published_history =
    backfill_adds one_published (commit_path 2) next_text (pos 6) (pos 0) 2 (commit_place 2 (omega arith)) next_backfills (lawful_is_sound one_published (pos 0) (one_published_is_lawful (pos 0)))
    ∙ backfill_adds both_ratified (commit_path 1) adding_text (pos 5) (pos 0) 1 (commit_place 1 (omega arith)) adding_backfills (lawful_is_sound both_ratified (pos 0) (both_ratified_is_lawful (pos 0)))
    ∙ ratified_history

-- ---- the checkpoint, and what goes below it

top_is : IsPlace (V2 2 9 true)
top_is = ((omega arith), (omega arith))

none_at_top : (held : List ℕ) → Holds both_published (V2 2 9 true) held → ⊥
none_at_top held holds = elim (also_at one_published (λ place. (Commit_at 1 ≡ place) ⊎ AtNext place) (Commit_at 2) next_text (pos 6) (omega arith) only_published (V2 2 9 true) held holds) [
  | inl is ↦ let no : Commit_at 2 ≡ V2 2 9 true = is in cc
  | inr one ↦ elim one [
    | inl is ↦ let no : Commit_at 1 ≡ V2 2 9 true = is in cc
    | inr two ↦ elim two [
      | inl is ↦ let no : Staged 2 5 ≡ V2 2 9 true = is in cc
      | inr three ↦ elim three [
        | inl is ↦ let no : Staged 1 8 ≡ V2 2 9 true = is in cc
        | inr four ↦ elim four [
          | inl is ↦ let no : Staged 1 7 ≡ V2 2 9 true = is in cc
          | inr is ↦ let no : Commit_at 0 ≡ V2 2 9 true = is in cc
        ]
      ]
    ]
  ]
]

last_holds : Holds both_published (Commit_at 2) next_text
last_holds = made_here one_published (commit_path 2) next_text (pos 6) (Commit_at 2) (commit_place 2 (omega arith))

covered_is_lawful : (horizon : ℤ) → Lawful covered horizon
covered_is_lawful horizon =
    made both_published (V2 2 9 true) backlog_text (pos 7) horizon (both_published_is_lawful horizon) top_is none_at_top
    (makes_json both_published 2 9 backlog_text whole_actions horizon (2, (omega arith), (next_text, last_holds)) whole_means refl refl (ap (λ h. fold (take 3 (commits_of h))) (sym published_history)))

top_holds : Holds covered (V2 2 9 true) backlog_text
top_holds = made_here both_published (place_path (V2 2 9 true)) backlog_text (pos 7) (V2 2 9 true) (place_of_path (V2 2 9 true) top_is)

still_last : AtMostPublished covered 2
still_last = (2, (omega arith), (next_text, kept_made both_published (place_path (V2 2 9 true)) backlog_text (pos 7) (Commit_at 2) next_text (free_at both_published (V2 2 9 true) top_is none_at_top) last_holds))

pub backlog_is_lawful : BacklogIsLawful
backlog_is_lawful horizon =
    gone (Forgotten 2 ∷ covered) (Commit_at 1) horizon (still_last, covered_is_lawful horizon) (omega arith)
    ((2, (omega arith), inr (inl (9, (true, (backlog_text, held_forgotten covered 2 (V2 2 9 true) backlog_text top_holds))))), refl)

-- a backfill of a version whose commit before isn't published
pub backfill_ahead : IsForbidden both_ratified (Made (commit_path 2) next_text (pos 5))
backfill_ahead horizon may = elim (subst (λ (place : Place). MayMake both_ratified place next_text horizon) (commit_place 2 (omega arith)) may.1) [
  | inl comes ↦ let next = comes.2.next in let long = ap length ratified_history in omega (arith, next, long)
  | inr fills ↦ let next = fills.next in unpublished fills.last (omega (arith, next)) fills.published.0.0 fills.published.0.1
]

-- a commit below a complete checkpoint that stands ratified
pub ratified_below : IsForbidden covered (Deleted (commit_path 1))
ratified_below horizon may =
    let stands = (subst (MayDelete covered) (commit_place 1 (omega arith)) may).1 in
    let no : ◌≡◌ {A = Option (List ℕ)} (Some (staged_name 1 7)) None = stands in cc
