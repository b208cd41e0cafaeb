-- The latest version is the greatest.
use Rattle.std.proofs.Common.{◌≡◌, ℕ, ◌<◌, ◌≤◌, ◌^◌, List, [], ◌∷◌, map, refl, ap, ap₂, sym, subst, ◌∙◌, Bool, true, false, true≢false, arith, codes, inl, inr}
use Rattle.std.specs.Prelude.{Option, Some, None, ◌==◌, ◌||◌, ◌⊎◌, max, is_some, nat_le, if◌then◌else◌}
use Rattle.std.specs.List.{list_any, fold}
use Rattle.std.proofs.lemmas.Bool.{eqb-true, eq-eqb, leb-true, leb-false}
use Rattle.dk_store.specs.Told.{Told, Listed}
use Rattle.dk_store.specs.Listing.{listing}
use Rattle.dk_store.specs.Standings.{ratified_from, standing}
use Rattle.dk_paths.specs.declared.log_name.LogName.{LogName}
use Rattle.dk_paths.specs.declared.log_name.LogName.TheVariants as names
use Rattle.dk_paths.specs.Names.{log_name_of}
use Rattle.dk_paths.specs.Places.{Commit_at}
use Rattle.dk_paths.proofs.Meanings.{named_commit}
use Rattle.dk_listing.specs.Entries.{in_log}
use Rattle.dk_listing.specs.Latest.{part_among}
use Rattle.dk_listing.specs.Newest.{later, commit_version, complete_version}
use Rattle.dk_listing.specs.OfEvents.{stands_at, latest}
use Rattle.dk_listing.specs.Presence.{is_at, name_at}
use Rattle.dk_listing.proofs.LatestOf.{latest_standing}
use Rattle.dk_listing.proofs.Standing.{any_map, any_same, commit_listed, name_at_standing}
use Rattle.dk_snapshot.specs.LatestVersion.{is_of, log_names, lists_complete, is_version, IsLatest, LatestIsGreatest, ListedIsGreatest}

-- ---- the greatest number that passes a test

abbrev IsGreatest : (ℕ → Bool) → Option ℕ → Type 0
IsGreatest test None = (v : ℕ) → test v ≡ false
IsGreatest test (Some n) = (test n ≡ true) × ((v : ℕ) → test v ≡ true → v ≤ n)

same_greatest : (f g : ℕ → Bool) → ((v : ℕ) → f v ≡ g v) → (o : Option ℕ) → IsGreatest f o → IsGreatest g o
same_greatest f g same None is = λ v. sym (same v) ∙ is v
same_greatest f g same (Some n) is = (sym (same n) ∙ is.0, λ v t. is.1 v (same v ∙ t))

neither : (x y : Bool) → x ≡ false → y ≡ false → (x || y) ≡ false
neither true y a b = a
neither false y a b = b

pub first_or : (x y : Bool) → x ≡ true → (x || y) ≡ true
first_or true y a = refl
first_or false y a = absurd (true≢false (sym a))

pub second_or : (x y : Bool) → y ≡ true → (x || y) ≡ true
second_or true y a = refl
second_or false y a = a

-- what passes one of two tests, each of which bounds it
bounded : (x y : Bool) (v n : ℕ) → (x ≡ true → v ≤ n) → (y ≡ true → v ≤ n) → (x || y) ≡ true → v ≤ n
bounded true y v n first second is = first refl
bounded false y v n first second is = second is

never : (x : Bool) (v n : ℕ) → x ≡ false → x ≡ true → v ≤ n
never x v n fails is = absurd (true≢false (sym is ∙ fails))

later_greatest : (f g : ℕ → Bool) (a b : Option ℕ) → IsGreatest f a → IsGreatest g b → IsGreatest (λ v. f v || g v) (later a b)
later_greatest f g None None x y = λ v. neither (f v) (g v) (x v) (y v)
later_greatest f g None (Some n) x y = (second_or (f n) (g n) y.0, λ v. bounded (f v) (g v) v n (never (f v) v n (x v)) (y.1 v))
later_greatest f g (Some m) None x y = (first_or (f m) (g m) x.0, λ v. bounded (f v) (g v) v m (x.1 v) (never (g v) v m (y v)))
later_greatest f g (Some m) (Some n) x y = by (nat_le m n) refl
  where
    most : (v : ℕ) → (f v || g v) ≡ true → v ≤ max m n
    most v = bounded (f v) (g v) v (max m n) (λ t. let less : v ≤ m = x.1 v t in omega (arith, less)) (λ t. let less : v ≤ n = y.1 v t in omega (arith, less))

    by : (t : Bool) → nat_le m n ≡ t → ((f (max m n) || g (max m n)) ≡ true) × ((v : ℕ) → (f v || g v) ≡ true → v ≤ max m n)
    by true is =
        let less : m ≤ n = leb-true m n is in
        let same : n ≡ max m n = omega (arith, less) in
        (subst (λ (k : ℕ). (f k || g k) ≡ true) same (second_or (f n) (g n) y.0), most)
    by false is =
        let more : n < m = leb-false m n is in
        let same : m ≡ max m n = omega (arith, more) in
        (subst (λ (k : ℕ). (f k || g k) ≡ true) same (first_or (f m) (g m) x.0), most)

one_greatest : (o : Option ℕ) → IsGreatest (is_of o) o
one_greatest None = λ v. refl
one_greatest (Some n) = (eq-eqb n n refl, λ v t. let same : n ≡ v = eqb-true n v t in omega (arith, same))

or_assoc : (x y z : Bool) → ((x || y) || z) ≡ (x || (y || z))
or_assoc true y z = refl
or_assoc false y z = refl

or_false : (x : Bool) → x ≡ (x || false)
or_false true = refl
or_false false = refl

newest_from : {X : Type 0} (version : X → Option ℕ) (f : ℕ → Bool) (best : Option ℕ) (xs : List X) → IsGreatest f best
    → IsGreatest (λ v. f v || list_any (λ x. is_of (version x) v) xs) (fold (λ best x. later best (version x)) best xs)
newest_from version f best [] is = same_greatest f (λ v. f v || false) (λ v. or_false (f v)) best is
newest_from version f best (x ∷ xs) is =
    same_greatest (λ v. (f v || is_of (version x) v) || list_any (λ x. is_of (version x) v) xs) (λ v. f v || (is_of (version x) v || list_any (λ x. is_of (version x) v) xs))
    (λ v. or_assoc (f v) (is_of (version x) v) (list_any (λ x. is_of (version x) v) xs)) (fold (λ best x. later best (version x)) (later best (version x)) xs)
    (newest_from version (λ v. f v || is_of (version x) v) (later best (version x)) xs (later_greatest f (is_of (version x)) best (version x) is (one_greatest (version x))))

newest_greatest : {X : Type 0} (version : X → Option ℕ) (xs : List X) → IsGreatest (λ v. list_any (λ x. is_of (version x) v) xs) (fold (λ best x. later best (version x)) None xs)
newest_greatest version xs = newest_from version (λ v. false) None xs (λ v. refl)

-- ---- commits and ratifications

at_version : (version : ℕ) (name : LogName) → is_of (commit_version name) version ≡ is_at (Commit_at version) name
at_version version (names.Commit v) = refl
at_version version (names.Classic v) = refl
at_version version (names.Part v part parts) = refl
at_version version (names.V2Json v id) = refl
at_version version (names.V2Parquet v id) = refl
at_version version (names.Compacted first last) = refl
at_version version names.Hint = refl
at_version version names.Other = refl

small_at : (text : List ℕ) (version : ℕ) (name : LogName) → log_name_of text ≡ name → is_of (commit_version name) version ≡ true → version < 2 ^ 63
small_at text version (names.Commit v) is t = subst (λ (n : ℕ). n < 2 ^ 63) (eqb-true v version t) (named_commit text v is).small
small_at text version (names.Classic v) is t = absurd (true≢false (sym t))
small_at text version (names.Part v part parts) is t = absurd (true≢false (sym t))
small_at text version (names.V2Json v id) is t = absurd (true≢false (sym t))
small_at text version (names.V2Parquet v id) is t = absurd (true≢false (sym t))
small_at text version (names.Compacted first last) is t = absurd (true≢false (sym t))
small_at text version names.Hint is t = absurd (true≢false (sym t))
small_at text version names.Other is t = absurd (true≢false (sym t))

abbrev lists_version : List (LogName × Listed) → ℕ → Bool
lists_version log version = list_any (λ entry. is_of (commit_version entry.0) version) log

small_listed : (entries : List Listed) (version : ℕ) → lists_version (map in_log entries) version ≡ true → version < 2 ^ 63
small_listed [] version is = absurd (true≢false (sym is))
small_listed (entry ∷ entries) version is = by (is_of (commit_version (log_name_of entry.name)) version) refl is (small_listed entries version)
  where
    by : (t : Bool) → is_of (commit_version (log_name_of entry.name)) version ≡ t → (t || lists_version (map in_log entries) version) ≡ true
        → (lists_version (map in_log entries) version ≡ true → version < 2 ^ 63) → version < 2 ^ 63
    by true here h later = small_at entry.name version (log_name_of entry.name) refl here
    by false here h later = later h

published_is : (events : List Told) (version : ℕ) → version < 2 ^ 63 → lists_version (log_names events) version ≡ stands_at events (Commit_at version)
published_is events version small =
    any_map in_log (λ (entry : LogName × Listed). is_of (commit_version entry.0) version) (listing events (codes "_delta_log") [])
    ∙ any_same (λ (entry : Listed). is_of (commit_version (log_name_of entry.name)) version) (λ (entry : Listed). is_at (Commit_at version) (log_name_of entry.name)) (λ entry. at_version version (log_name_of entry.name)) (listing events (codes "_delta_log") [])
    ∙ commit_listed events version small

named_any : (es : List (ℕ × List ℕ)) (version : ℕ) → list_any (λ (r : ℕ × List ℕ). is_of (Some r.0) version) es ≡ is_some (name_at es version)
named_any [] version = refl
named_any (e ∷ es) version = by (e.0 == version) (named_any es version)
  where
    by : (t : Bool) → list_any (λ (r : ℕ × List ℕ). is_of (Some r.0) version) es ≡ is_some (name_at es version)
        → (t || list_any (λ (r : ℕ × List ℕ). is_of (Some r.0) version) es) ≡ is_some (if t then Some e.1 else name_at es version)
    by true rest = refl
    by false rest = rest

ratified_is : (events : List Told) (version : ℕ) → list_any (λ (r : ℕ × List ℕ). is_of (Some r.0) version) (ratified_from events 0) ≡ is_some (standing events version)
ratified_is events version = named_any (ratified_from events 0) version ∙ ap (λ (o : Option (List ℕ)). is_some o) (name_at_standing events version)

-- ---- all of them

abbrev by_names : List Told → ℕ → Bool
by_names events v = (lists_version (log_names events) v || lists_complete (log_names events) v) || list_any (λ (r : ℕ × List ℕ). is_of (Some r.0) v) (ratified_from events 0)

by_names_is : (events : List Told) (version : ℕ) → version < 2 ^ 63 → by_names events version ≡ is_version events version
by_names_is events version small =
    ap₂ (λ (x y : Bool). (x || lists_complete (log_names events) version) || y) (published_is events version small) (ratified_is events version)

-- what is listed or stands ratified is a version
is_there : (events : List Told) (version : ℕ) → by_names events version ≡ true → is_version events version ≡ true
is_there events version is = by (lists_version (log_names events) version) refl
  where
    by : (t : Bool) → lists_version (log_names events) version ≡ t → is_version events version ≡ true
    by true here = sym (by_names_is events version (small_listed (listing events (codes "_delta_log") []) version here)) ∙ is
    by false here =
        let rest : (lists_complete (log_names events) version || is_some (standing events version)) ≡ true =
        sym (ap₂ (λ (x y : Bool). (x || lists_complete (log_names events) version) || y) here (ratified_is events version)) ∙ is in
        or_assoc (stands_at events (Commit_at version)) (lists_complete (log_names events) version) (is_some (standing events version))
        ∙ second_or (stands_at events (Commit_at version)) (lists_complete (log_names events) version || is_some (standing events version)) rest

names_greatest : (events : List Told) → IsGreatest (by_names events) (latest events)
names_greatest events =
    let log : List (LogName × Listed) = log_names events in
    later_greatest (λ v. lists_version log v || lists_complete log v) (λ v. list_any (λ (r : ℕ × List ℕ). is_of (Some r.0) v) (ratified_from events 0)) _ _
    (later_greatest (lists_version log) (lists_complete log) _ _ (newest_greatest (λ (entry : LogName × Listed). commit_version entry.0) log) (newest_greatest (λ (entry : LogName × Listed). complete_version (part_among log) entry.0) log))
    (newest_greatest (λ (r : ℕ × List ℕ). Some r.0) (ratified_from events 0))

in_words : (events : List Told) (found : Option ℕ) → IsGreatest (by_names events) found → IsLatest events found
in_words events None is = λ version small. sym (by_names_is events version small) ∙ is version
in_words events (Some last) is = (is_there events last is.0, λ version small t. is.1 version (by_names_is events version small ∙ t))

pub latest_is_greatest : LatestIsGreatest
latest_is_greatest events = in_words events (latest events) (names_greatest events)

pub listed_is_greatest : ListedIsGreatest
listed_is_greatest events listing is = subst (λ (found : Option ℕ). IsLatest events found) (sym (latest_standing events listing is)) (latest_is_greatest events)

-- ---- the latest version alone

-- it is published and one that a table can have, or has a complete checkpoint in the log's folder, or stands ratified
abbrev pub Shown : List Told → ℕ → Type 0
Shown events version = ((version < 2 ^ 63) × (stands_at events (Commit_at version) ≡ true)) ⊎ ((lists_complete (log_names events) version ≡ true) ⊎ (is_some (standing events version) ≡ true))

shown_by : (events : List Told) (version : ℕ) (published complete ratified : Bool) → lists_version (log_names events) version ≡ published → lists_complete (log_names events) version ≡ complete
    → list_any (λ (r : ℕ × List ℕ). is_of (Some r.0) version) (ratified_from events 0) ≡ ratified → ((published || complete) || ratified) ≡ true → Shown events version
shown_by events version true complete ratified here there stands is =
    let small : version < 2 ^ 63 = small_listed (listing events (codes "_delta_log") []) version here in
    inl (small, sym (published_is events version small) ∙ here)
shown_by events version false true ratified here there stands is = inr (inl there)
shown_by events version false false ratified here there stands is = inr (inr (sym (ratified_is events version) ∙ stands ∙ is))

pub latest_shown : (events : List Told) (version : ℕ) → latest events ≡ Some version → Shown events version
latest_shown events version is =
    let greatest : IsGreatest (by_names events) (Some version) = subst (IsGreatest (by_names events)) is (names_greatest events) in
    shown_by events version (lists_version (log_names events) version) (lists_complete (log_names events) version) (list_any (λ (r : ℕ × List ℕ). is_of (Some r.0) version) (ratified_from events 0)) refl refl refl greatest.0
