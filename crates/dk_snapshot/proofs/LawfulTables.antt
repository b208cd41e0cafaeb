-- Each table of a lawful log is one that the law reads: its reader version and its features are, and no deletion vector stands beside a file.
-- So it is read, unless it awaits a feature that isn't built so far.
use Rattle.std.proofs.Common.{◌≡◌, ◌⊎◌, ℕ, ℤ, ◌+◌, ◌<◌, ◌≤◌, Bool, true, false, not, true≢false, inl, inr, List, [], ◌∷◌, ◌++◌, length, take, Option, Some, None, IfSome, if◌then◌else◌, cond, refl, sym, ap, subst, ◌∙◌, arith, length-append, Global}
use Rattle.std.specs.Prelude.{IsSome, int_le, pos}
use Rattle.std.specs.List.{list_any}
use Rattle.std.specs.Option.{option_or}
use Rattle.std.specs.FinMap.{get}
use Rattle.std.specs.FinMap as map
use Rattle.std.proofs.lemmas.Bool.{and_parts, cases_lt}
use Rattle.std.proofs.lemmas.List.{take-append-le, map-append}
use Rattle.std.proofs.Math.Seq.{take-length}
use Rattle.dk_model.specs.declared.action.Action.{Action}
use Rattle.dk_model.specs.declared.action.Action.TheVariants as action
use Rattle.dk_model.specs.declared.action.AddFile.{AddFile}
use Rattle.dk_model.specs.declared.action.Metadata.{Metadata}
use Rattle.dk_model.specs.declared.action.Protocol.{Protocol}
use Rattle.dk_model.specs.declared.state.TableState.{TableState}
use Rattle.dk_model.specs.Changes.{Change, live, gone, is_same_text, change_at}
use Rattle.dk_model.specs.State.{step, steps, fold, empty_state}
use Rattle.dk_model.specs.Texts.{ByText}
use Rattle.dk_model.proofs.Changes.{file_given, get-files-step}
use Rattle.dk_model.proofs.TextMaps.{get_text}
use Rattle.dk_features.specs.Invariants.{uses_invariants}
use Rattle.dk_features.specs.Support.{unread, unread_name}
use Rattle.dk_store.specs.Told.{Told}
use Rattle.dk_lawful.specs.History.{RatifiedCommit, commits_of, state_of, history, next_version, table_at}
use Rattle.dk_lawful.specs.Lawful.{Lawful}
use Rattle.dk_lawful.specs.Timestamps.{last_timestamp}
use Rattle.dk_lawful.specs.SoFar.{awaited}
use Rattle.dk_lawful.specs.Written.{is_read_by, is_written_by, is_table_written}
use Rattle.dk_lawful.specs.Rules.{is_plain_add, keeps_heads, keeps_kinds, keeps_paths_apart, keeps_names_apart, keeps_protocol, keeps_writer, keeps_rows, keeps_domains, keeps_times, keeps_management, keeps_adds, KeepsRules, IsValidNext}
use Rattle.dk_lawful.proofs.Heads.{state_after}
use Rattle.dk_lawful.proofs.SoFar.{read_so_far}
use Rattle.dk_lawful.proofs.Sound.{length_commits}
use Rattle.dk_lawful.proofs.SoundOthers.{lawful_is_sound}
use Rattle.dk_lawful.proofs.Validly.{GoesOnValidly, goes_on_validly}
use Rattle.dk_lawful.proofs.Words.{Entries, AreOf, entries_are_of}
use Rattle.dk_snapshot.specs.Support.{unreadable}

-- no deletion vector stands beside a file
abbrev AreBare : ByText AddFile → Type 0
AreBare files = (path : List ℕ) → IfSome (get files path) (λ f. f.vector ≡ false)

pub record CanBeRead (state : TableState) : Type 0 where
  pub reader : IfSome state.protocol (λ p. is_read_by p ≡ true)
  pub files : AreBare state.files

-- ---- what is not read

none_has : (es : Entries AddFile) (files : ByText AddFile) → AreBare files → AreOf files es → list_any (λ file. file.1.vector) es ≡ false
none_has [] files bare are = refl
none_has (e ∷ es) files bare are =
    let here : e.1.vector ≡ false = subst (λ (found : Option AddFile). IfSome found (λ f. f.vector ≡ false)) are.0 (bare e.0) in
    rw here (none_has es files bare are.1)

nothing_named : (p : Protocol) → unread p ≡ None → unread_name p ≡ None
unfolding unread_name
nothing_named p none = rw none refl

one_alone : (found : Option (List ℕ)) → option_or found None ≡ found
one_alone None = refl
one_alone (Some name) = refl

-- nothing is in the way of reading it but a feature that is awaited
pub awaits_or_none : (p : Protocol) (files : ByText AddFile) → is_read_by p ≡ true → AreBare files
    → (unreadable p files ≡ None) ⊎ (IsSome (awaited (Some p)) × (unreadable p files ≡ unread_name p))
awaits_or_none p files reads bare = by (awaited (Some p)) refl
  where
    by : (name : Option (List ℕ)) → awaited (Some p) ≡ name → (unreadable p files ≡ None) ⊎ (IsSome name × (unreadable p files ≡ unread_name p))
    by None none = inl (rw (nothing_named p (read_so_far p reads none), none_has (map.entries files) files bare (entries_are_of files)) refl)
    by (Some name) is = inr (refl, rw (none_has (map.entries files) files bare (entries_are_of files)) (one_alone (unread_name p)))

-- ---- a commit that keeps the rules

-- the tests in a row that no rule broken passes
passed : (kept : Bool) (rule : ℕ) (rest : Option ℕ) → (if not kept then Some rule else rest) ≡ None → (kept ≡ true) × (rest ≡ None)
passed true rule rest none = (refl, none)
passed false rule rest none = absurd (let no : ◌≡◌ {A = Option ℕ} (Some rule) None = none in cc)

record Keeps (before : TableState) (actions : List Action) : Type 0 where
  writer : keeps_writer before actions ≡ true
  adds : keeps_adds actions ≡ true

keeps : (before : TableState) (last : Option ℤ) (version : ℕ) (actions : List Action) → KeepsRules before last version actions → Keeps before actions
keeps before last version actions valid =
    let one = passed (keeps_heads version actions) 1 _ valid in
    let two = passed (keeps_kinds actions) 2 _ one.1 in
    let three = passed (keeps_paths_apart actions) 3 _ two.1 in
    let four = passed (keeps_names_apart actions) 4 _ three.1 in
    let five = passed (keeps_protocol before actions) 5 _ four.1 in
    let six = passed (keeps_writer before actions) 6 _ five.1 in
    let seven = passed (keeps_rows before actions) 7 _ six.1 in
    let eight = passed (keeps_domains before actions) 8 _ seven.1 in
    let nine = passed (keeps_times before last version actions) 9 _ eight.1 in
    let ten = passed (keeps_management before actions) 10 _ nine.1 in
    let eleven = passed (keeps_adds actions) 11 _ ten.1 in
    record { writer = six.0; adds = eleven.0 }

-- what the law writes it reads
reader_of : (protocol : Option Protocol) (metadata : Option Metadata) → is_table_written protocol metadata ≡ true → IfSome protocol (λ p. is_read_by p ≡ true)
unfolding is_table_written
reader_of None metadata written = tt
reader_of (Some p) None written = absurd (true≢false (sym written))
reader_of (Some p) (Some m) written = (and_parts (is_read_by p) (is_written_by (uses_invariants m.schema_string) p) written).0

negated : (b : Bool) → not b ≡ true → b ≡ false
negated true e = absurd (true≢false (sym e))
negated false e = refl

live_when : (b : Bool) (f g : AddFile) → cond b (Some (live f)) None ≡ Some (live g) → f ≡ g
live_when true f g e = cc
live_when false f g e = cc

never_live : (b : Bool) (t : ℤ) (g : AddFile) → cond b (Some (gone t)) None ≡ Some (live g) → ⊥
never_live true t g e = cc
never_live false t g e = cc

made_bare : (a : Action) (path : List ℕ) (g : AddFile) → is_plain_add a ≡ true → change_at path a ≡ Some (live g) → g.vector ≡ false
made_bare (action.Add f) path g plain e =
    let same : record f { data_change = false } ≡ g = live_when (is_same_text path f.path) (record f { data_change = false }) g e in
    ap (λ (file : AddFile). file.vector) (sym same) ∙ negated f.vector ((and_parts (int_le (pos 0) f.size) (not f.vector) plain).1)
made_bare (action.Remove r) path g plain e = absurd (never_live (is_same_text path r.path) r.deletion_timestamp g e)
made_bare (action.Protocol p) path g plain e = cc
made_bare (action.Metadata m) path g plain e = cc
made_bare (action.Txn t) path g plain e = cc
made_bare (action.Domain d) path g plain e = cc
made_bare (action.Info i) path g plain e = cc
made_bare action.Cdc path g plain e = cc
made_bare (action.CheckpointMeta m) path g plain e = cc
made_bare (action.Sidecar s) path g plain e = cc

given_bare : (change : Option Change) (old : Option AddFile) → IfSome old (λ f. f.vector ≡ false) → ((g : AddFile) → change ≡ Some (live g) → g.vector ≡ false) → IfSome (file_given change old) (λ f. f.vector ≡ false)
given_bare None old before made = before
given_bare (Some (live g)) old before made = made g refl
given_bare (Some (gone t)) old before made = tt

bare_step : (s : TableState) (a : Action) → is_plain_add a ≡ true → AreBare s.files → AreBare (step s a).files
bare_step s a plain bare path =
    subst (λ (found : Option AddFile). IfSome found (λ f. f.vector ≡ false)) (sym (get-files-step s a path)) (given_bare (change_at path a) (get s.files path) (bare path) (λ g e. made_bare a path g plain e))

bare_steps : (s : TableState) (actions : List Action) → keeps_adds actions ≡ true → AreBare s.files → AreBare (steps s actions).files
bare_steps s [] plain bare = bare
bare_steps s (a ∷ rest) plain bare =
    let both = and_parts (is_plain_add a) (keeps_adds rest) plain in
    bare_steps (step s a) rest both.1 (bare_step s a both.0 bare)

valid_read : (before : TableState) (last : Option ℤ) (version : ℕ) (actions : List Action) → KeepsRules before last version actions → CanBeRead before → CanBeRead (steps before actions)
valid_read before last version actions valid reads =
    let keeps_both = keeps before last version actions valid in
    record { reader = reader_of (steps before actions).protocol (steps before actions).metadata keeps_both.writer; files = bare_steps before actions keeps_both.adds reads.files }

empty_read : CanBeRead empty_state
empty_read = record { reader = tt; files = λ path. subst (λ (found : Option AddFile). IfSome found (λ f. f.vector ≡ false)) (sym (get_text {Y = Global} {X = AddFile} [] path)) tt }

-- ---- the tables of a history

-- after so many commits, whatever their number
abbrev AllCanBeRead : List RatifiedCommit → Type 0
AllCanBeRead h = (count : ℕ) → count ≤ length h → CanBeRead (fold (take count (commits_of h)))

read_now : (h : List RatifiedCommit) → AllCanBeRead h → CanBeRead (state_of h)
read_now h all =
    let long = length_commits h in
    subst (λ (commits : List (List Action)). CanBeRead (fold commits)) (ap (λ (n : ℕ). take n (commits_of h)) (sym long) ∙ take-length (commits_of h)) (all (length h) (omega arith))

one_more : (h : List RatifiedCommit) (commit : RatifiedCommit) → AllCanBeRead h → IsValidNext (commits_of h) commit.actions → AllCanBeRead (h ++ commit ∷ [])
one_more h commit all valid count most = elim (cases_lt count (length h + 1)) [
  | inl front ↦
      let same : take count (commits_of (h ++ commit ∷ [])) ≡ take count (commits_of h) =
      ap (take count) (map-append (λ (c : RatifiedCommit). c.actions) h (commit ∷ [])) ∙ take-append-le count (commits_of h) (commit.actions ∷ []) (let long = length_commits h in omega arith) in
      subst (λ (commits : List (List Action)). CanBeRead (fold commits)) (sym same) (all count (omega arith))
  | inr beyond ↦
      let long : length (h ++ commit ∷ []) ≡ length h + 1 = length-append h (commit ∷ []) in
      let longer = length_commits (h ++ commit ∷ []) in
      let whole : take count (commits_of (h ++ commit ∷ [])) ≡ commits_of (h ++ commit ∷ []) =
      ap (λ (n : ℕ). take n (commits_of (h ++ commit ∷ []))) (let e : count ≡ length (commits_of (h ++ commit ∷ [])) = omega arith in e) ∙ take-length (commits_of (h ++ commit ∷ [])) in
      subst (λ (commits : List (List Action)). CanBeRead (fold commits)) (sym whole)
      (subst CanBeRead (sym (state_after h commit)) (valid_read (state_of h) (last_timestamp (commits_of h)) (length (commits_of h)) commit.actions valid (read_now h all)))
]

goes_on_read : (event : Told) (events : List Told) → AllCanBeRead (history events) → GoesOnValidly events event → AllCanBeRead (history (event ∷ events))
goes_on_read event events all (inl same) = subst AllCanBeRead (sym same) all
goes_on_read event events all (inr more) = subst AllCanBeRead (sym more.1) (one_more (history events) more.0 all more.2)

all_read : (events : List Told) (horizon : ℤ) → Lawful events horizon → AllCanBeRead (history events)
all_read [] horizon lawful = none
  where
    none : (count : ℕ) → count ≤ 0 → CanBeRead (fold (take count (commits_of [])))
    none count most = subst (λ (n : ℕ). CanBeRead (fold (take n (commits_of [])))) (let e : 0 ≡ count = omega arith in e) empty_read
all_read (event ∷ events) horizon lawful = goes_on_read event events (all_read events horizon lawful.1) (goes_on_validly events event horizon (lawful_is_sound events horizon lawful.1) lawful.0)

-- each version of a lawful log can be read
pub tables_read : (events : List Told) (horizon : ℤ) → Lawful events horizon → (version : ℕ) → version < next_version events → CanBeRead (table_at events version)
tables_read events horizon lawful version below = all_read events horizon lawful (version + 1) (omega arith)
