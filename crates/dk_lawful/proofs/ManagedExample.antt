-- The managed table is lawful, and each event beside it lacks one condition.
use Rattle.std.proofs.Common.{◌≡◌, ℕ, zero, suc, ℤ, pos, ◌≤◌, ◌<◌, ◌^◌, ◌⊎◌, inl, inr, true, List, [], ◌∷◌, ◌++◌, Option, Some, None, codes, length, take, refl, sym, ap, subst, ◌∙◌, arith, true≢false}
use Rattle.std.specs.Str.{bytes_eq}
use Rattle.dk_model.specs.declared.action.Action.{Action}
use Rattle.dk_model.specs.CommitText.{commit_of}
use Rattle.dk_model.specs.CheckpointObjects.{checkpoint_meta_of}
use Rattle.dk_model.specs.InfoObject.{info_of}
use Rattle.dk_model.specs.State.{fold}
use Rattle.dk_store.specs.Told.{Told, Made, Deleted, Ratified, Forgotten}
use Rattle.dk_paths.specs.Names.{commit_path}
use Rattle.dk_paths.specs.Numbers.{digits}
use Rattle.dk_paths.specs.Places.{Place, Commit_at, V2, Staged, IsPlace, place_of, place_path, log_front, staged_front}
use Rattle.dk_paths.specs.Staged.{staged_name}
use Rattle.dk_paths.proofs.PlaceLaws.{place_of_path}
use Rattle.dk_lawful.specs.Present.{Holds, Present, IsLastPublished, AtMostPublished, staged_bytes}
use Rattle.dk_lawful.specs.Managed.{is_managed}
use Rattle.dk_lawful.specs.History.{by_file, by_catalogue, history, commits_of, state_of, next_version}
use Rattle.dk_lawful.specs.Permits.{MayMake, MayDelete, AddsCommit, RatifiesCommit, Backfills, MakesTop}
use Rattle.dk_lawful.specs.Lawful.{Lawful}
use Rattle.dk_lawful.specs.Example.{IsForbidden}
use Rattle.dk_lawful.specs.CheckpointExample.{mark_text_1}
use Rattle.dk_lawful.specs.ManagedExample.{founding_text, founding_actions, adding_text, adding_actions, late_text, late_actions, founded, staged_once, staged_twice, staged_ahead, staged_unreadable, catalogued, published, forgotten, dropped, checkpoint_text, checkpoint_actions, ManagedIsLawful, ManagedHistory}
use Rattle.dk_lawful.proofs.OnTexts.{commits_on_literals, rules_on_literals}
use Rattle.dk_lawful.proofs.Standing.{text_refl, commit_place, found_made, kept_made, made_here, held_at, held_once, held_ratified, was_ratified, held_forgotten, was_forgotten, found_deleted, kept_deleted}
use Rattle.dk_lawful.proofs.Example.{broken_after, adds, permitted, history_one}
use Rattle.dk_lawful.proofs.MoreExamples.{free_at}
use Rattle.dk_lawful.proofs.CheckpointExample.{OnlyAt, also_at, made, gone, quiet, makes_json}
use Rattle.dk_lawful.proofs.SoundMade.{backfill_adds}
use Rattle.dk_lawful.proofs.SoundOthers.{ratifies_itself, lawful_is_sound}

-- ---- its commits

founding_means : commit_of founding_text ≡ Some founding_actions
unfolding commits_on_literals info_of founding_text
founding_means = refl

adding_means : commit_of adding_text ≡ Some adding_actions
unfolding commits_on_literals info_of adding_text
adding_means = refl

late_means : commit_of late_text ≡ Some late_actions
unfolding commits_on_literals info_of late_text
late_means = refl

checkpoint_means : commit_of checkpoint_text ≡ Some checkpoint_actions
unfolding commits_on_literals info_of checkpoint_meta_of mark_text_1 founding_text adding_text
checkpoint_means = refl

-- ---- the places

staged_is : (id : ℕ) → id < 2 ^ 128 → IsPlace (Staged 1 id)
staged_is id small = record { version_small = omega arith; id_small = small }

is_7 : IsPlace (Staged 1 7)
is_7 = staged_is 7 (omega arith)

is_8 : IsPlace (Staged 1 8)
is_8 = staged_is 8 (omega arith)

is_6 : IsPlace (Staged 1 6)
is_6 = staged_is 6 (omega arith)

pub is_5 : IsPlace (Staged 2 5)
is_5 = record { version_small = omega arith; id_small = omega arith }

top_is : IsPlace (V2 1 9 true)
top_is = ((omega arith), (omega arith))

abbrev pub IsFirst : Place → Type 0
IsFirst place = Commit_at 0 ≡ place

pub only_founded : OnlyAt founded IsFirst
only_founded place held holds = elim (found_made [] (commit_path 0) founding_text (pos 0) place held holds) [
  | inl (at, is) ↦ sym (commit_place 0 (omega arith)) ∙ at
  | inr none ↦ absurd (let no : ◌≡◌ {A = Option (List ℕ)} None (Some held) = none.has_bytes in cc)
]

only_once : OnlyAt staged_once (λ place. (Staged 1 7 ≡ place) ⊎ IsFirst place)
only_once = also_at founded IsFirst (Staged 1 7) adding_text (pos 1) is_7 only_founded

only_twice : OnlyAt staged_twice (λ place. (Staged 1 8 ≡ place) ⊎ ((Staged 1 7 ≡ place) ⊎ IsFirst place))
only_twice = also_at staged_once (λ place. (Staged 1 7 ≡ place) ⊎ IsFirst place) (Staged 1 8) late_text (pos 2) is_8 only_once

pub only_catalogued : OnlyAt catalogued (λ place. (Staged 1 8 ≡ place) ⊎ ((Staged 1 7 ≡ place) ⊎ IsFirst place))
only_catalogued place held holds = only_twice place held (was_ratified staged_twice 1 (staged_name 1 7) place held holds)

only_published : OnlyAt published (λ place. (Commit_at 1 ≡ place) ⊎ ((Staged 1 8 ≡ place) ⊎ ((Staged 1 7 ≡ place) ⊎ IsFirst place)))
only_published = also_at catalogued (λ place. (Staged 1 8 ≡ place) ⊎ ((Staged 1 7 ≡ place) ⊎ IsFirst place)) (Commit_at 1) adding_text (pos 3) (omega arith) only_catalogued

other_id : (a b : ℕ) → a < b → Staged 1 a ≡ Staged 1 b → ⊥
other_id a b less is = let same : a ≡ b = cc in omega arith

other_commit : (a b : ℕ) → a < b → Commit_at a ≡ Commit_at b → ⊥
other_commit a b less is = let same : a ≡ b = cc in omega arith

none_at_7 : (held : List ℕ) → Holds founded (Staged 1 7) held → ⊥
none_at_7 held holds = let no : Commit_at 0 ≡ Staged 1 7 = only_founded (Staged 1 7) held holds in cc

none_at_8 : (held : List ℕ) → Holds staged_once (Staged 1 8) held → ⊥
none_at_8 held holds = elim (only_once (Staged 1 8) held holds) [
  | inl is ↦ other_id 7 8 (omega arith) is
  | inr is ↦ let no : Commit_at 0 ≡ Staged 1 8 = is in cc
]

unpublished : (version : ℕ) → 1 ≤ version → Present catalogued (Commit_at version) → ⊥
unpublished version past (held, holds) = elim (only_catalogued (Commit_at version) held holds) [
  | inl is ↦ let no : Staged 1 8 ≡ Commit_at version = is in cc
  | inr rest ↦ elim rest [
    | inl is ↦ let no : Staged 1 7 ≡ Commit_at version = is in cc
    | inr is ↦ other_commit 0 version (omega arith) is
  ]
]

-- ---- the histories

pub founded_history : history founded ≡ by_file founding_actions ∷ []
founded_history = history_one founding_text founding_actions founding_means

once_history : history staged_once ≡ by_file founding_actions ∷ []
once_history = quiet founded (Staged 1 7) adding_text (pos 1) is_7 (λ h. refl) ∙ founded_history

twice_history : history staged_twice ≡ by_file founding_actions ∷ []
twice_history = quiet staged_once (Staged 1 8) late_text (pos 2) is_8 (λ h. refl) ∙ once_history

is_managed_then : is_managed (state_of (by_file founding_actions ∷ [])) ≡ true
unfolding rules_on_literals
is_managed_then = refl

-- ---- the staged commits that stand

pub staged_7 : Holds staged_twice (Staged 1 7) adding_text
staged_7 =
    kept_made staged_once (place_path (Staged 1 8)) late_text (pos 2) (Staged 1 7) adding_text (free_at staged_once (Staged 1 8) is_8 none_at_8)
    (made_here founded (place_path (Staged 1 7)) adding_text (pos 1) (Staged 1 7) (place_of_path (Staged 1 7) is_7))

-- a staged commit that may be ratified after the first version
ratifies : (events : List Told) (id : ℕ) (bytes : List ℕ) (actions : List Action) → history events ≡ by_file founding_actions ∷ [] → Holds events (Staged 1 id) bytes → commit_of bytes ≡ Some actions
    → broken_after (by_file founding_actions ∷ []) actions ≡ None → RatifiesCommit events 1 (staged_name 1 id)
ratifies events id bytes actions is holds means valid = record {
  next = sym (ap length is);
  by_catalogue = ap (λ h. is_managed (state_of h)) is ∙ is_managed_then;
  id = id;
  is_name = refl;
  bytes = bytes;
  staged = holds;
  actions = actions;
  means = means;
  valid = ap (λ h. broken_after h actions) is ∙ valid;
}

adding_ratifies : RatifiesCommit staged_twice 1 (staged_name 1 7)
unfolding rules_on_literals
adding_ratifies = ratifies staged_twice 7 adding_text adding_actions twice_history staged_7 adding_means refl

-- ---- the log is lawful

founding_adds : AddsCommit [] 0 founding_text
unfolding rules_on_literals
founding_adds = adds [] [] 0 founding_text founding_actions refl refl refl refl founding_means

pub founded_is_lawful : (horizon : ℤ) → Lawful founded horizon
founded_is_lawful horizon = (permitted [] horizon 0 founding_text (pos 0) (omega arith) tt founding_adds, tt)

once_is_lawful : (horizon : ℤ) → Lawful staged_once horizon
once_is_lawful horizon =
    made founded (Staged 1 7) adding_text (pos 1) horizon (founded_is_lawful horizon) is_7 none_at_7 (let long = ap length founded_history in let most : next_version founded ≤ 1 = omega (arith, long) in most)

twice_is_lawful : (horizon : ℤ) → Lawful staged_twice horizon
twice_is_lawful horizon =
    made staged_once (Staged 1 8) late_text (pos 2) horizon (once_is_lawful horizon) is_8 none_at_8 (let long = ap length once_history in let most : next_version staged_once ≤ 1 = omega (arith, long) in most)

pub catalogued_is_lawful : (horizon : ℤ) → Lawful catalogued horizon
catalogued_is_lawful horizon = (adding_ratifies, twice_is_lawful horizon)

pub first_stands : Present catalogued (Commit_at 0)
first_stands = (
  founding_text,
  held_ratified staged_twice 1 (staged_name 1 7) (Commit_at 0) founding_text
      (kept_made staged_once (place_path (Staged 1 8)) late_text (pos 2) (Commit_at 0) founding_text (free_at staged_once (Staged 1 8) is_8 none_at_8)
      (kept_made founded (place_path (Staged 1 7)) adding_text (pos 1) (Commit_at 0) founding_text (free_at founded (Staged 1 7) is_7 none_at_7)
      (made_here [] (commit_path 0) founding_text (pos 0) (Commit_at 0) (commit_place 0 (omega arith))))),
)

first_is_last : IsLastPublished catalogued (Some 0)
first_is_last = (first_stands, λ version at. by version at)
  where
    by : (version : ℕ) → Present catalogued (Commit_at version) → version ≤ 0
    by zero at = omega arith
    by (suc version) at = absurd (unpublished (suc version) (omega arith) at)

adding_backfills : Backfills catalogued 1 adding_text
adding_backfills = record {
  last = 0;
  published = first_is_last;
  next = refl;
  name = staged_name 1 7;
  stands = refl;
  staged = held_at catalogued (Staged 1 7) adding_text (held_ratified staged_twice 1 (staged_name 1 7) (Staged 1 7) adding_text staged_7);
}

none_at_1 : (held : List ℕ) → Holds catalogued (Commit_at 1) held → ⊥
none_at_1 held holds = unpublished 1 (omega arith) (held, holds)

published_is_lawful : (horizon : ℤ) → Lawful published horizon
published_is_lawful horizon = made catalogued (Commit_at 1) adding_text (pos 3) horizon (catalogued_is_lawful horizon) (omega arith) none_at_1 (inr adding_backfills)

is_published : Holds published (Commit_at 1) adding_text
is_published = made_here catalogued (commit_path 1) adding_text (pos 3) (Commit_at 1) (commit_place 1 (omega arith))

then_published : AtMostPublished forgotten 1
then_published = (1, (omega arith), (adding_text, held_forgotten published 1 (Commit_at 1) adding_text is_published))

forgotten_is_lawful : (horizon : ℤ) → Lawful forgotten horizon
forgotten_is_lawful horizon = ((1, (omega arith), (adding_text, is_published)), published_is_lawful horizon)

after_drop : (events : List Told) (id : ℕ) → IsPlace (Staged 1 id) → AtMostPublished events 1 → AtMostPublished (Deleted (place_path (Staged 1 id)) ∷ events) 1
after_drop events id is (last, most, (held, holds)) =
    (last, most, (held, kept_deleted events (place_path (Staged 1 id)) (Commit_at last) held (λ at. let no : Staged 1 id ≡ Commit_at last = sym (place_of_path (Staged 1 id) is) ∙ at in cc) holds))

dropped_is_lawful : (horizon : ℤ) → Lawful dropped horizon
dropped_is_lawful horizon =
    gone (Deleted (place_path (Staged 1 7)) ∷ forgotten) (Staged 1 8) horizon (gone forgotten (Staged 1 7) horizon (forgotten_is_lawful horizon) is_7 (inr then_published)) is_8
    (inr (after_drop forgotten 7 is_7 then_published))

-- ---- its history, and the checkpoint

pub catalogued_history : history catalogued ≡ by_file founding_actions ∷ by_catalogue adding_actions ∷ []
unfolding adding_ratifies ratifies
catalogued_history = ratifies_itself staged_twice 1 (staged_name 1 7) adding_ratifies ∙ ap (λ h. h ++ by_catalogue adding_actions ∷ []) twice_history

published_history : history published ≡ by_file founding_actions ∷ by_catalogue adding_actions ∷ []
published_history =
    backfill_adds catalogued (commit_path 1) adding_text (pos 3) (pos 0) 1 (commit_place 1 (omega arith)) adding_backfills (lawful_is_sound catalogued (pos 0) (catalogued_is_lawful (pos 0)))
    ∙ catalogued_history

pub managed_history : ManagedHistory
managed_history = quiet dropped (V2 1 9 true) checkpoint_text (pos 4) top_is (λ h. refl) ∙ published_history

dropped_published : AtMostPublished dropped 1
dropped_published = after_drop (Deleted (place_path (Staged 1 7)) ∷ forgotten) 8 is_8 (after_drop forgotten 7 is_7 then_published)

none_at_top : (held : List ℕ) → Holds dropped (V2 1 9 true) held → ⊥
none_at_top held holds = elim (only_published (V2 1 9 true) held (was_forgotten published 1 (V2 1 9 true) held
    (found_deleted forgotten (place_path (Staged 1 7)) (V2 1 9 true) held (found_deleted (Deleted (place_path (Staged 1 7)) ∷ forgotten) (place_path (Staged 1 8)) (V2 1 9 true) held holds)))) [
      | inl is ↦ let no : Commit_at 1 ≡ V2 1 9 true = is in cc
      | inr rest ↦ elim rest [
        | inl is ↦ let no : Staged 1 8 ≡ V2 1 9 true = is in cc
        | inr more ↦ elim more [
          | inl is ↦ let no : Staged 1 7 ≡ V2 1 9 true = is in cc
          | inr is ↦ let no : Commit_at 0 ≡ V2 1 9 true = is in cc
        ]
      ]
    ]

pub managed_is_lawful : ManagedIsLawful
managed_is_lawful horizon =
    made dropped (V2 1 9 true) checkpoint_text (pos 4) horizon (dropped_is_lawful horizon) top_is none_at_top
    (makes_json dropped 1 9 checkpoint_text checkpoint_actions horizon dropped_published checkpoint_means refl refl (ap (λ h. fold (take 2 (commits_of h))) (sym published_history)))

-- ---- what may not come

-- a commit by file, though it is valid: the table is managed, and the version doesn't stand ratified
pub by_file_alone : IsForbidden staged_twice (Made (commit_path 1) adding_text (pos 3))
by_file_alone horizon may = elim (subst (λ (place : Place). MayMake staged_twice place adding_text horizon) (commit_place 1 (omega arith)) may.1) [
  | inl comes ↦ true≢false (sym (ap (λ h. is_managed (state_of h)) twice_history ∙ is_managed_then) ∙ comes.2.by_file)
  | inr fills ↦ let no : ◌≡◌ {A = Option (List ℕ)} None (Some fills.name) = fills.stands in cc
]

-- the names of the two staged commits differ
names_apart : staged_name 1 8 ≡ staged_name 1 7 → ⊥
names_apart same =
    let places : Staged 1 8 ≡ Staged 1 7 = sym (place_of_path (Staged 1 8) is_8) ∙ ap (λ (name : List ℕ). place_of (log_front ++ (staged_front ++ name))) same ∙ place_of_path (Staged 1 7) is_7 in
    other_id 7 8 (omega arith) (sym places)

-- a ratification whose staged commit has no later time than the commit before
late_breaks : broken_after (by_file founding_actions ∷ []) late_actions ≡ Some 9
unfolding rules_on_literals
late_breaks = refl

-- what is ratified under the second name is the second staged commit
is_late : (may : RatifiesCommit staged_twice 1 (staged_name 1 8)) → may.actions ≡ late_actions
is_late may = elim (only_twice (Staged 1 may.id) may.bytes may.staged) [
  | inl is ↦
      let here : Holds staged_twice (Staged 1 8) late_text = made_here staged_once (place_path (Staged 1 8)) late_text (pos 2) (Staged 1 8) (place_of_path (Staged 1 8) is_8) in
      let bytes : may.bytes ≡ late_text = held_once staged_twice (Staged 1 8) may.bytes late_text (subst (λ place. Holds staged_twice place may.bytes) (sym is) may.staged) here in
      let both : Some may.actions ≡ Some late_actions = sym may.means ∙ ap commit_of bytes ∙ late_means in
      cc
  | inr rest ↦ elim rest [
    | inl is ↦ absurd (names_apart (may.is_name ∙ ap (staged_name 1) (let same : may.id ≡ 7 = cc in same)))
    | inr is ↦ absurd (let no : Commit_at 0 ≡ Staged 1 may.id = is in cc)
  ]
]

pub not_later : IsForbidden staged_twice (Ratified 1 (staged_name 1 8))
not_later horizon may =
    let no : ◌≡◌ {A = Option ℕ} None (Some 9) =
    sym may.valid ∙ ap (λ h. broken_after h may.actions) twice_history ∙ ap (broken_after (by_file founding_actions ∷ [])) (is_late may) ∙ late_breaks in cc

-- one under a name that isn't that of the version's staged commit
pub other_name : IsForbidden staged_twice (Ratified 1 (codes "x"))
unfolding digits
other_name horizon may =
    let first : ◌≡◌ {A = ℕ} 120 48 = first_byte 120 48 [] _ may.is_name in
    omega arith
  where
    first_byte : (byte other : ℕ) (bytes others : List ℕ) → byte ∷ bytes ≡ other ∷ others → byte ≡ other
    first_byte byte other bytes others is = cc

-- one of a version that isn't the next one, though its staged commit stands
ahead_history : history staged_ahead ≡ by_file founding_actions ∷ []
ahead_history = quiet staged_twice (Staged 2 5) adding_text (pos 3) is_5 (λ h. refl) ∙ twice_history

pub not_next : IsForbidden staged_ahead (Ratified 2 (staged_name 2 5))
not_next horizon may = let next = may.next in let long = ap length ahead_history in omega (arith, next, long)

-- one whose staged commit is absent, and one whose text means nothing
pub staged_absent : IsForbidden founded (Ratified 1 (staged_name 1 7))
staged_absent horizon may = let no : Commit_at 0 ≡ Staged 1 may.id = only_founded (Staged 1 may.id) may.bytes may.staged in cc

unreadable_text : commit_of (codes "{") ≡ None
unfolding commits_on_literals
unreadable_text = refl

pub staged_means_nothing : IsForbidden staged_unreadable (Ratified 1 (staged_name 1 6))
staged_means_nothing horizon may = elim (also_at founded IsFirst (Staged 1 6) (codes "{") (pos 1) is_6 only_founded (Staged 1 may.id) may.bytes may.staged) [
  | inl is ↦
      let here : Holds staged_unreadable (Staged 1 6) (codes "{") = made_here founded (place_path (Staged 1 6)) (codes "{") (pos 1) (Staged 1 6) (place_of_path (Staged 1 6) is_6) in
      let bytes : may.bytes ≡ codes "{" = held_once staged_unreadable (Staged 1 6) may.bytes (codes "{") (subst (λ place. Holds staged_unreadable place may.bytes) (sym is) may.staged) here in
      let no : ◌≡◌ {A = Option (List Action)} None (Some may.actions) = sym unreadable_text ∙ ap commit_of (sym bytes) ∙ may.means in cc
  | inr is ↦ let no : Commit_at 0 ≡ Staged 1 may.id = is in cc
]

-- a backfill with other bytes than those that were ratified
bytes_apart : adding_text ≡ late_text → ⊥
unfolding adding_text late_text
bytes_apart same = true≢false (sym (text_refl adding_text) ∙ ap (bytes_eq adding_text) same ∙ refl)

pub other_bytes : IsForbidden catalogued (Made (commit_path 1) late_text (pos 3))
unfolding adding_backfills
other_bytes horizon may = elim (subst (λ (place : Place). MayMake catalogued place late_text horizon) (commit_place 1 (omega arith)) may.1) [
  | inl comes ↦ let next = comes.2.next in let long = ap length catalogued_history in omega (arith, next, long)
  | inr fills ↦
      let named : Some (staged_name 1 7) ≡ Some fills.name = fills.stands in
      let name : staged_name 1 7 ≡ fills.name = cc in
      let both : Some adding_text ≡ Some late_text = sym adding_backfills.staged ∙ ap (staged_bytes catalogued) name ∙ fills.staged in
      bytes_apart (let same : adding_text ≡ late_text = cc in same)
]

-- what is permitted once the version is published
pub checkpoint_early : IsForbidden catalogued (Made (place_path (V2 1 9 true)) checkpoint_text (pos 4))
checkpoint_early horizon may =
    let makes : MakesTop catalogued (V2 1 9 true) 1 checkpoint_text horizon = subst (λ (place : Place). MayMake catalogued place checkpoint_text horizon) (place_of_path (V2 1 9 true) top_is) may.1 in
    unpublished makes.published.0 makes.published.1 makes.published.2

pub forgotten_early : IsForbidden catalogued (Forgotten 1)
forgotten_early horizon may = unpublished may.0 may.1 may.2

pub dropped_early : IsForbidden catalogued (Deleted (place_path (Staged 1 7)))
dropped_early horizon may = elim (subst (MayDelete catalogued) (place_of_path (Staged 1 7) is_7) may) [
  | inl unnamed ↦ unnamed 1 refl
  | inr late ↦ unpublished late.0 late.1 late.2
]
