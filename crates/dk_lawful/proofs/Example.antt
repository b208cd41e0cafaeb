-- The example is lawful, and the events beside it aren't.
use Rattle.std.proofs.Common.{◌≡◌, ℕ, ℤ, pos, ◌<◌, ◌^◌, Bool, true, false, not, length, option_map, option_and_then, List, [], ◌∷◌, ◌++◌, Option, Some, None, codes, refl, sym, ap, subst, ◌∙◌, arith, true≢false, inl, inr}
use Rattle.std.specs.Prelude.{IsNone, is_some, if◌then◌else◌}
use Rattle.dk_model.specs.declared.action.Action.{Action}
use Rattle.dk_model.specs.CommitText.{commit_of}
use Rattle.dk_store.specs.Told.{Told, Stored, Made, Over, Deleted}
use Rattle.dk_store.specs.Objects.{object, content}
use Rattle.dk_paths.specs.Names.{commit_path}
use Rattle.dk_paths.specs.Places.{Place, Commit_at, Classic, Part, V2, Staged, place_of, log_front, staged_front}
use Rattle.dk_paths.proofs.PlaceLaws.{place_of_path}
use Rattle.dk_lawful.specs.History.{By_file, By_catalogue, RatifiedCommit, by_file, by_catalogue, history, commits_of, state_of, longer, after_made, staged_commit, next_version}
use Rattle.dk_lawful.specs.Managed.{is_managed}
use Rattle.dk_lawful.specs.Rules.{first_broken}
use Rattle.dk_lawful.specs.Timestamps.{last_timestamp}
use Rattle.dk_lawful.specs.Permits.{Permits, MayMake, MayOver, MayDelete, AddsCommit}
use Rattle.dk_lawful.specs.Present.{Holds, Complete}
use Rattle.dk_store.specs.Standings.{standing}
use Rattle.dk_lawful.specs.Lawful.{Lawful}
use Rattle.dk_lawful.specs.Example.{first_text, first_actions, second_text, second_actions, listing_text, listing_actions, upgrading_text, upgrading_actions, shrinking_text, shrinking_actions, managed_text, managed_actions, staged_name_1, staging, ratifying, first_event, example, ExampleIsLawful, ExampleHistory, IsForbidden}
use Rattle.dk_lawful.proofs.OnTexts.{commits_on_literals, rules_on_literals}
use Rattle.dk_lawful.proofs.Standing.{commit_place, text_refl, found_made}
use Rattle.dk_lawful.proofs.Structure.{longer_is}
use Rattle.dk_lawful.proofs.SoundMade.{adds_itself}
use Rattle.dk_lawful.proofs.Stays.{next_is_free}

pub first_means : commit_of first_text ≡ Some first_actions
unfolding commits_on_literals first_text
first_means = refl

pub second_means : commit_of second_text ≡ Some second_actions
unfolding commits_on_literals second_text
second_means = refl

managed_means : commit_of managed_text ≡ Some managed_actions
unfolding commits_on_literals managed_text
managed_means = refl

is_managed_then : is_managed (state_of (by_file managed_actions ∷ [])) ≡ true
unfolding rules_on_literals
is_managed_then = refl

-- a text that means nothing is no commit
none_is_none : (bytes : List ℕ) (actions : List Action) → commit_of bytes ≡ None → commit_of bytes ≡ Some actions → ⊥
none_is_none bytes actions none some = let no : ◌≡◌ {A = Option (List Action)} None (Some actions) = sym none ∙ some in cc

-- the history after one object
pub history_one : (bytes : List ℕ) (actions : List Action) → commit_of bytes ≡ Some actions → history (Made (commit_path 0) bytes (pos 0) ∷ []) ≡ by_file actions ∷ []
unfolding rules_on_literals
history_one bytes actions means =
    ap (λ (place : Place). after_made [] place bytes) (commit_place 0 (omega arith))
    ∙ longer_is [] By_file 0 (commit_of bytes) actions means refl refl

first_history : history (first_event ∷ []) ≡ by_file first_actions ∷ []
first_history = history_one first_text first_actions first_means

-- the first rule that a commit breaks after this history
abbrev pub broken_after : List RatifiedCommit → List Action → Option ℕ
broken_after h actions = first_broken (state_of h) (last_timestamp (commits_of h)) (length (commits_of h)) actions

-- a commit that is valid after this history
unfoldable pub adds : (events : List Told) (h : List RatifiedCommit) (version : ℕ) (bytes : List ℕ) (actions : List Action) → history events ≡ h → version ≡ length h
    → is_managed (state_of h) ≡ false → broken_after h actions ≡ None → commit_of bytes ≡ Some actions → AddsCommit events version bytes
adds events h version bytes actions is next unmanaged valid means = (
  actions,
  means,
  record {
    next = next ∙ ap length (sym is);
    by_file = ap (λ l. is_managed (state_of l)) is ∙ unmanaged;
    valid = ap (λ l. broken_after l actions) is ∙ valid;
  },
)

first_adds : AddsCommit [] 0 first_text
unfolding rules_on_literals
first_adds = adds [] [] 0 first_text first_actions refl refl refl refl first_means

second_adds : AddsCommit (first_event ∷ []) 1 second_text
unfolding rules_on_literals
second_adds = adds (first_event ∷ []) (by_file first_actions ∷ []) 1 second_text second_actions first_history refl refl refl second_means

-- it may be made at its path on a lawful log
pub permitted : (events : List Told) (horizon : ℤ) (version : ℕ) (bytes : List ℕ) (stamp : ℤ) → version < 2 ^ 63 → Lawful events horizon → AddsCommit events version bytes
    → Permits events (Made (commit_path version) bytes stamp) horizon
permitted events horizon version bytes stamp small lawful may = (
  next_is_free events horizon version lawful may.2.next small,
  subst (λ (place : Place). MayMake events place bytes horizon) (sym (commit_place version small)) (inl may),
)

first_is_lawful : (horizon : ℤ) → Lawful (first_event ∷ []) horizon
first_is_lawful horizon = (permitted [] horizon 0 first_text (pos 0) (omega arith) tt first_adds, tt)

pub example_is_lawful : ExampleIsLawful
example_is_lawful horizon =
    (permitted (first_event ∷ []) horizon 1 second_text (pos 1) (omega arith) (first_is_lawful horizon) second_adds, first_is_lawful horizon)

pub example_history : ExampleHistory
unfolding second_adds adds
example_history =
    adds_itself (first_event ∷ []) (commit_path 1) second_text (pos 1) 1 (commit_place 1 (omega arith)) second_adds
    ∙ ap (λ l. l ++ by_file second_actions ∷ []) first_history

-- what a permitted commit has, where nothing stands ratified
pub may_add : (events : List Told) (horizon : ℤ) (version : ℕ) (bytes : List ℕ) (stamp : ℤ) → version < 2 ^ 63 → standing events version ≡ None
    → Permits events (Made (commit_path version) bytes stamp) horizon → AddsCommit events version bytes
may_add events horizon version bytes stamp small none may = elim (at_place may.1) [
  | inl adds ↦ adds
  | inr fills ↦ absurd (let no : ◌≡◌ {A = Option (List ℕ)} None (Some fills.name) = sym none ∙ fills.stands in cc)
]
  where
    at_place : MayMake events (place_of (commit_path version)) bytes horizon → MayMake events (Commit_at version) bytes horizon
    at_place may = subst (λ (place : Place). MayMake events place bytes horizon) (commit_place version small) may

pub example_next : next_version example ≡ 2
example_next = ap length example_history

pub gap : IsForbidden example (Made (commit_path 3) second_text (pos 2))
gap horizon may = let next = (may_add example horizon 3 second_text (pos 2) (omega arith) refl may).2.next in let is = example_next in omega arith

pub again : IsForbidden example (Made (commit_path 1) second_text (pos 2))
again horizon may = let next = (may_add example horizon 1 second_text (pos 2) (omega arith) refl may).2.next in let is = example_next in omega arith

taken_by : (path bytes : List ℕ) (stamp : ℤ) (events : List Told) → IsNone (object (Over path bytes stamp ∷ events) path) → ⊥
taken_by path bytes stamp events none =
    true≢false (ap (λ (b : Bool). is_some (if b then Some (record { bytes = bytes; stamp = stamp }) else object events path)) (sym (text_refl path)) ∙ none)

pub taken : IsForbidden (Over (commit_path 0) first_text (pos 0) ∷ []) (Made (commit_path 0) first_text (pos 1))
taken horizon may = taken_by (commit_path 0) first_text (pos 0) [] may.0

unreadable_text : commit_of (codes "{") ≡ None
unfolding commits_on_literals
unreadable_text = refl

pub unreadable : IsForbidden example (Made (commit_path 2) (codes "{") (pos 2))
unreadable horizon may =
    let add = may_add example horizon 2 (codes "{") (pos 2) (omega arith) refl may in
    none_is_none (codes "{") add.0 unreadable_text add.1

-- a commit that breaks a rule after this history
pub broken : (events : List Told) (h : List RatifiedCommit) (version rule : ℕ) (bytes : List ℕ) (actions : List Action) → history events ≡ h
    → broken_after h actions ≡ Some rule → commit_of bytes ≡ Some actions → AddsCommit events version bytes → ⊥
broken events h version rule bytes actions is breaks means may =
    let same : may.0 ≡ actions = (let both : Some may.0 ≡ Some actions = sym may.1 ∙ means in cc) in
    let valid : broken_after h actions ≡ None = ap (λ l. broken_after l actions) (sym is) ∙ ap (broken_after (history events)) (sym same) ∙ may.2.valid in
    let no : ◌≡◌ {A = Option ℕ} None (Some rule) = sym valid ∙ breaks in cc

twice_means : commit_of (second_text ++ second_text) ≡ Some (second_actions ++ second_actions)
unfolding commits_on_literals second_text
twice_means = refl

pub no_protocol : IsForbidden [] (Made (commit_path 0) second_text (pos 0))
no_protocol horizon may =
    broken [] [] 0 1 second_text second_actions refl refl second_means (may_add [] horizon 0 second_text (pos 0) (omega arith) refl may)

listing_means : commit_of listing_text ≡ Some listing_actions
unfolding commits_on_literals listing_text
listing_means = refl

upgrading_means : commit_of upgrading_text ≡ Some upgrading_actions
unfolding commits_on_literals upgrading_text
upgrading_means = refl

shrinking_means : commit_of shrinking_text ≡ Some shrinking_actions
unfolding commits_on_literals shrinking_text
shrinking_means = refl

-- a commit that breaks a rule after the example
pub breaks : (rule : ℕ) (bytes : List ℕ) (actions : List Action) → broken_after (by_file first_actions ∷ by_file second_actions ∷ []) actions ≡ Some rule
    → commit_of bytes ≡ Some actions → IsForbidden example (Made (commit_path 2) bytes (pos 2))
breaks rule bytes actions is means horizon may =
    broken example (by_file first_actions ∷ by_file second_actions ∷ []) 2 rule bytes actions example_history is means (may_add example horizon 2 bytes (pos 2) (omega arith) refl may)

pub path_twice : IsForbidden example (Made (commit_path 2) (second_text ++ second_text) (pos 2))
unfolding rules_on_literals
path_twice = breaks 3 (second_text ++ second_text) (second_actions ++ second_actions) refl twice_means

pub features : IsForbidden example (Made (commit_path 2) listing_text (pos 2))
unfolding rules_on_literals
features = breaks 5 listing_text listing_actions refl listing_means

pub upgrade : IsForbidden example (Made (commit_path 2) upgrading_text (pos 2))
unfolding rules_on_literals commits_on_literals
upgrade = breaks 6 upgrading_text upgrading_actions refl upgrading_means

pub size : IsForbidden example (Made (commit_path 2) shrinking_text (pos 2))
unfolding rules_on_literals
size = breaks 11 shrinking_text shrinking_actions refl shrinking_means

pub managed : IsForbidden (Made (commit_path 0) managed_text (pos 0) ∷ []) (Made (commit_path 1) second_text (pos 1))
managed horizon may =
    let add = may_add (Made (commit_path 0) managed_text (pos 0) ∷ []) horizon 1 second_text (pos 1) (omega arith) refl may in
    let is = history_one managed_text managed_actions managed_means in
    true≢false (sym is_managed_then ∙ ap (λ l. is_managed (state_of l)) (sym is) ∙ add.2.by_file)

pub over : IsForbidden example (Over (commit_path 1) second_text (pos 2))
over horizon may = subst MayOver (commit_place 1 (omega arith)) may

-- nothing but commits stands in the example, so that no checkpoint is complete
pub only_commits : (place : Place) (held : List ℕ) → Holds example place held → (version : ℕ) × (Commit_at version ≡ place)
only_commits place held holds = elim (found_made (first_event ∷ []) (commit_path 1) second_text (pos 1) place held holds) [
  | inl (at, is) ↦ (1, sym (commit_place 1 (omega arith)) ∙ at)
  | inr before ↦ elim (found_made [] (commit_path 0) first_text (pos 0) place held before) [
    | inl (at, is) ↦ (0, sym (commit_place 0 (omega arith)) ∙ at)
    | inr none ↦ absurd (let no : ◌≡◌ {A = Option (List ℕ)} None (Some held) = none.has_bytes in cc)
  ]
]

none_complete : (version : ℕ) → Complete example version → ⊥
none_complete version (inl (held, holds)) = let only = only_commits (Classic version) held holds in let no : Commit_at only.0 ≡ Classic version = only.1 in cc
none_complete version (inr (inl (id, (json, (held, holds))))) =
    let only = only_commits (V2 version id json) held holds in let no : Commit_at only.0 ≡ V2 version id json = only.1 in cc
none_complete version (inr (inr (parts, some, all))) =
    let one = all 1 (omega arith) some in
    let only = only_commits (Part version 1 parts) one.0 one.1 in let no : Commit_at only.0 ≡ Part version 1 parts = only.1 in cc

pub deleted : IsForbidden example (Deleted (commit_path 0))
deleted horizon may =
    let at_place : MayDelete example (Commit_at 0) = subst (MayDelete example) (commit_place 0 (omega arith)) may in
    let above = at_place.0 in
    none_complete above.0 above.2

-- what doesn't add
added_none : (events : List Told) (h : List RatifiedCommit) (version : ℕ) (bytes : List ℕ) (stamp : ℤ) → version < 2 ^ 63 → history events ≡ h
    → after_made h (Commit_at version) bytes ≡ h → history (Made (commit_path version) bytes stamp ∷ events) ≡ history events
added_none events h version bytes stamp small is none =
    ap (λ (place : Place). after_made (history events) place bytes) (commit_place version small)
    ∙ ap (λ l. after_made l (Commit_at version) bytes) is ∙ none ∙ sym is

pub gap_adds : history (Made (commit_path 3) second_text (pos 2) ∷ example) ≡ history example
gap_adds =
    added_none example (by_file first_actions ∷ by_file second_actions ∷ []) 3 second_text (pos 2) (omega arith) example_history
    (ap (longer (by_file first_actions ∷ by_file second_actions ∷ []) By_file 3) second_means)

pub unreadable_adds : history (Made (commit_path 2) (codes "{") (pos 2) ∷ example) ≡ history example
unreadable_adds =
    added_none example (by_file first_actions ∷ by_file second_actions ∷ []) 2 (codes "{") (pos 2) (omega arith) example_history
    (ap (longer (by_file first_actions ∷ by_file second_actions ∷ []) By_file 2) unreadable_text)

managed_history : history (Made (commit_path 0) managed_text (pos 0) ∷ []) ≡ by_file managed_actions ∷ []
managed_history = history_one managed_text managed_actions managed_means

staged_place_is : place_of (log_front ++ (staged_front ++ staged_name_1)) ≡ Staged 1 7
staged_place_is = place_of_path (Staged 1 7) (record { version_small = omega arith; id_small = omega arith })

pub staged : history staging ≡ by_file managed_actions ∷ []
staged =
    ap (λ (place : Place). after_made (history (Made (commit_path 0) managed_text (pos 0) ∷ [])) place second_text) staged_place_is ∙ managed_history

staged_bytes : content staging (log_front ++ (staged_front ++ staged_name_1)) ≡ Some second_text
staged_bytes = ap (λ (b : Bool). option_map (λ (o : Stored). o.bytes) (if b then Some (record { bytes = second_text; stamp = pos 1 }) else object (Made (commit_path 0) managed_text (pos 0) ∷ []) (log_front ++ (staged_front ++ staged_name_1))))
    (text_refl (log_front ++ (staged_front ++ staged_name_1)))

pub ratified : history ratifying ≡ by_file managed_actions ∷ by_catalogue second_actions ∷ []
ratified =
    ap (λ l. longer l By_catalogue 1 (staged_commit staging staged_name_1)) staged
    ∙ longer_is (by_file managed_actions ∷ []) By_catalogue 1 (staged_commit staging staged_name_1) second_actions
    (ap (option_and_then commit_of) staged_bytes ∙ second_means) refl is_managed_then

pub by_file_adds : history (Made (commit_path 1) second_text (pos 2) ∷ staging) ≡ history staging
by_file_adds =
    added_none staging (by_file managed_actions ∷ []) 1 second_text (pos 2) (omega arith) staged
    (ap (longer (by_file managed_actions ∷ []) By_file 1) second_means
    ∙ ap (λ (managed : Bool). if not managed then by_file managed_actions ∷ by_file second_actions ∷ [] else by_file managed_actions ∷ []) is_managed_then)
