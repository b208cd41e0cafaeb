-- A listing shows the commits, the staged commits and the ratifications that stand.
use Rattle.std.proofs.Common.{◌≡◌, ℕ, zero, suc, ◌+◌, ◌/◌, ◌%◌, ◌^◌, ◌<◌, List, [], ◌∷◌, ◌++◌, map, refl, ap, ap₂, sym, ◌∙◌, Bool, true, false, true≢false, cond, arith, codes, nat_cmp, eq-eqb, inl, inr}
use Rattle.std.specs.Prelude.{Option, Some, None, ◌==◌, ◌&&◌, ◌||◌, not, find, is_some, option_map, nat_le}
use Rattle.std.specs.Ordering.{is_lt}
use Rattle.std.specs.Str.{bytes_eq}
use Rattle.std.specs.List.{list_any, filter, filter_map, cons_option}
use Rattle.std.specs.FinMap.{entries, get-entries}
use Rattle.std.specs.FinMap as finite
use Rattle.std.proofs.lemmas.Bool.Decides.{nat_tests, eqb_tells, same_from_decides}
use Rattle.std.proofs.lemmas.List.Folds.{list_any-append}
use Rattle.std.proofs.lemmas.Slice.Eq.{bytes_eq-Decides}
use Rattle.dk_store.specs.Told.{Told, Listed, Stored}
use Rattle.dk_store.specs.Listing.{listing, listed_as, path_in}
use Rattle.dk_store.specs.Objects.{object, path_cmp}
use Rattle.dk_store.specs.Standings.{ratified_from, standing, standings}
use Rattle.dk_store.proofs.Folders.{find-listing}
use Rattle.dk_store.proofs.Lookups.{get-standings, same_version}
use Rattle.dk_paths.specs.declared.log_name.LogName.{LogName}
use Rattle.dk_paths.specs.declared.log_name.LogName.TheVariants as names
use Rattle.dk_paths.specs.Numbers.{digits, id_text}
use Rattle.dk_paths.specs.Names.{commit_name, log_name_of}
use Rattle.dk_paths.specs.Places.{Commit_at, Staged, ends_in_parquet, sidecar_name}
use Rattle.dk_paths.specs.Staged.{IsStaged, IsStagedNameOf, staged_name, staged_of}
use Rattle.dk_paths.proofs.Meanings.{name_of-commit_name, named_commit, both, both-is}
use Rattle.dk_paths.proofs.StagedNames.{staged_of-spelled, IsStagedNameOf-staged_of}
use Rattle.dk_paths.proofs.SidecarNames.{is_sidecar_name-sidecar_name}
use Rattle.dk_listing.specs.declared.catalogued.Catalogued.{Catalogued}
use Rattle.dk_listing.specs.Entries.{in_log, in_staged, named_entry, staged_entry}
use Rattle.dk_listing.specs.Presence.{is_at, lists, name_at, ratified_name}
use Rattle.dk_listing.specs.OfEvents.{IsListingOf, stands_at}

-- ---- tests of lists

pub any_map : {X Y : Type 0} (f : X → Y) (test : Y → Bool) (xs : List X) → list_any test (map f xs) ≡ list_any (λ x. test (f x)) xs
any_map f test [] = refl
any_map f test (x ∷ xs) = ap (λ (b : Bool). test (f x) || b) (any_map f test xs)

pub any_same : {X : Type 0} (test other : X → Bool) → ((x : X) → test x ≡ other x) → (xs : List X) → list_any test xs ≡ list_any other xs
any_same {X} test other same xs = let tests : test ≡ other = λ i x. same x i in ap (λ (t : X → Bool). list_any t xs) tests

abbrev pub passes : {Y : Type 0} → (Y → Bool) → Option Y → Bool
passes test None = false
passes test (Some y) = test y

pub any_filter_map : {X Y : Type 0} (f : X → Option Y) (test : Y → Bool) (xs : List X) → list_any test (filter_map f xs) ≡ list_any (λ x. passes test (f x)) xs
any_filter_map f test [] = refl
any_filter_map {X} {Y} f test (x ∷ xs) = by (f x) (any_filter_map f test xs)
  where
    by : (o : Option Y) → list_any test (filter_map f xs) ≡ list_any (λ x. passes test (f x)) xs
        → list_any test (cons_option o (filter_map f xs)) ≡ (passes test o || list_any (λ x. passes test (f x)) xs)
    by None later = later
    by (Some y) later = ap (λ (b : Bool). test y || b) later

any_find : (test : Listed → Bool) (listed : List Listed) → list_any test listed ≡ is_some (find test listed)
any_find test [] = refl
any_find test (entry ∷ listed) = go (test entry) (any_find test listed)
  where
    go : (t : Bool) → list_any test listed ≡ is_some (find test listed) → (t || list_any test listed) ≡ is_some (cond t (Some entry) (find test listed))
    go true later = refl
    go false later = later

-- ---- names with no slash

abbrev pub is_slash : ℕ → Bool
is_slash byte = byte == 47

digit_is_no_slash : (n : ℕ) → (48 + n % 10 == 47) ≡ false
digit_is_no_slash n = grind (arith, nat_tests)

pub no_slash_in_digits : (count number : ℕ) → list_any is_slash (digits count number) ≡ false
unfolding digits
no_slash_in_digits zero number = refl
no_slash_in_digits (suc count) number =
    rw (list_any-append is_slash (digits count (number / 10)) ((48 + number % 10) ∷ []), no_slash_in_digits count (number / 10), digit_is_no_slash number) refl

pub no_slash_in_commit : (version : ℕ) → list_any is_slash (commit_name version) ≡ false
no_slash_in_commit version = rw (list_any-append is_slash (digits 20 version) (codes ".json"), no_slash_in_digits 20 version) refl

first_false : (a b c : Bool) → (not (a || b) && c) ≡ true → a ≡ false
first_false true b c h = absurd (true≢false (sym h))
first_false false b c h = refl

pub no_slash_in_id : (id : ℕ) → list_any is_slash (id_text id) ≡ false
no_slash_in_id id =
    let split : list_any is_slash (sidecar_name id) ≡ (list_any is_slash (id_text id) || list_any is_slash (codes ".parquet")) = list_any-append is_slash (id_text id) (codes ".parquet") in
    first_false (list_any is_slash (id_text id)) (list_any is_slash (codes ".parquet")) (ends_in_parquet (sidecar_name id))
    (ap (λ (b : Bool). not b && ends_in_parquet (sidecar_name id)) (sym split) ∙ is_sidecar_name-sidecar_name id)

pub no_slash_in_staged : (version id : ℕ) → list_any is_slash (staged_name version id) ≡ false
no_slash_in_staged version id =
    list_any-append is_slash (digits 20 version) (codes "." ++ (id_text id ++ codes ".json"))
    ∙ ap₂ (λ (a b : Bool). a || b) (no_slash_in_digits 20 version) (list_any-append is_slash (id_text id) (codes ".json"))
    ∙ ap (λ (a : Bool). a || false) (no_slash_in_id id)

-- ---- what is listed under a name is what stands at its path

is_some-map : (name : List ℕ) (o : Option Stored) → is_some (option_map (λ s. listed_as s name) o) ≡ is_some o
is_some-map name None = refl
is_some-map name (Some stored) = refl

-- at no lower bound each name is listed
pub not_below_empty : (name : List ℕ) → is_lt (path_cmp name []) ≡ false
not_below_empty [] = refl
not_below_empty (b ∷ bs) = refl

pub lists_name : (events : List Told) (folder name : List ℕ) → list_any is_slash name ≡ false
    → list_any (λ entry. bytes_eq entry.name name) (listing events folder []) ≡ is_some (object events (path_in folder name))
lists_name events folder name plain =
    any_find (λ (entry : Listed). bytes_eq entry.name name) (listing events folder [])
    ∙ ap (λ (o : Option Listed). is_some o) (find-listing events folder [] name plain (not_below_empty name))
    ∙ is_some-map name (object events (path_in folder name))

-- ---- commits

commit_read : (version : ℕ) (text : List ℕ) (name : LogName) → log_name_of text ≡ name → is_at (Commit_at version) name ≡ true → text ≡ commit_name version
commit_read version text (names.Commit v) is h = elim (eqb_tells v version) [
  | inl t ↦ (named_commit text v is).written ∙ ap commit_name t.1
  | inr f ↦ absurd (true≢false (sym h ∙ f.0))
]
commit_read version text (names.Classic v) is h = absurd (true≢false (sym h))
commit_read version text (names.Part v part parts) is h = absurd (true≢false (sym h))
commit_read version text (names.V2Json v id) is h = absurd (true≢false (sym h))
commit_read version text (names.V2Parquet v id) is h = absurd (true≢false (sym h))
commit_read version text (names.Compacted first last) is h = absurd (true≢false (sym h))
commit_read version text names.Hint is h = absurd (true≢false (sym h))
commit_read version text names.Other is h = absurd (true≢false (sym h))

-- a name means a version's commit exactly where it is its name
is_commit : (version : ℕ) → version < 2 ^ 63 → (text : List ℕ) → is_at (Commit_at version) (log_name_of text) ≡ bytes_eq text (commit_name version)
is_commit version small text = same_from_decides _ _ (
  commit_read version text (log_name_of text) refl,
  λ e. ap (λ (name : LogName). is_at (Commit_at version) name) (ap log_name_of e ∙ name_of-commit_name version small) ∙ eq-eqb version version refl,
)
    (bytes_eq-Decides text (commit_name version))

-- a commit is among the names of the log's folder exactly where it stands
pub commit_listed : (events : List Told) (version : ℕ) → version < 2 ^ 63
    → list_any (λ (entry : Listed). is_at (Commit_at version) (log_name_of entry.name)) (listing events (codes "_delta_log") []) ≡ stands_at events (Commit_at version)
commit_listed events version small =
    any_same (λ (entry : Listed). is_at (Commit_at version) (log_name_of entry.name)) (λ (entry : Listed). bytes_eq entry.name (commit_name version)) (λ entry. is_commit version small entry.name) (listing events (codes "_delta_log") [])
    ∙ lists_name events (codes "_delta_log") (commit_name version) (no_slash_in_commit version)

-- a commit is listed exactly where it stands
pub lists_commit : (events : List Told) (found : Catalogued) → IsListingOf events found → (version : ℕ) → version < 2 ^ 63 → lists found (Commit_at version) ≡ stands_at events (Commit_at version)
lists_commit events found is version small =
    sym (any_map named_entry (λ (e : LogName × Listed). is_at (Commit_at version) e.0) found.log.items)
    ∙ ap (list_any (λ (e : LogName × Listed). is_at (Commit_at version) e.0)) is.log
    ∙ any_map in_log (λ (e : LogName × Listed). is_at (Commit_at version) e.0) (listing events (codes "_delta_log") [])
    ∙ commit_listed events version small

-- ---- staged commits

abbrev pub is_staged_as : ℕ → ℕ → (ℕ × ℕ) × Listed → Bool
is_staged_as version id e = e.0.0 == version && e.0.1 == id

staged_read : (version id : ℕ) (entry : Listed) (found : Option (ℕ × ℕ)) → IsStagedNameOf entry.name found
    → passes (is_staged_as version id) (option_map (λ staged. (staged, entry)) found) ≡ true → entry.name ≡ staged_name version id
staged_read version id entry None names h = absurd (true≢false (sym h))
staged_read version id entry (Some staged) names h =
    let two = both-is (staged.0 == version) (staged.1 == id) h in
    sym names.1 ∙ ap₂ staged_name (same_number staged.0 version two.left) (same_number staged.1 id two.right)
  where
    same_number : (m n : ℕ) → (m == n) ≡ true → m ≡ n
    same_number m n h = elim (eqb_tells m n) [ inl t ↦ t.1 | inr f ↦ absurd (true≢false (sym h ∙ f.0)) ]

-- a name means a staged commit exactly where it is its name
pub is_staged : (version id : ℕ) → IsStaged version id → (entry : Listed) → passes (is_staged_as version id) (in_staged entry) ≡ bytes_eq entry.name (staged_name version id)
is_staged version id allowed entry = same_from_decides _ _ (
  staged_read version id entry (staged_of entry.name) (IsStagedNameOf-staged_of entry.name),
  λ e. ap (λ (found : Option (ℕ × ℕ)). passes (is_staged_as version id) (option_map (λ staged. (staged, entry)) found)) (staged_of-spelled entry.name version id allowed (sym e))
      ∙ both (version == version) (id == id) (eq-eqb version version refl) (eq-eqb id id refl),
)
    (bytes_eq-Decides entry.name (staged_name version id))

-- a staged commit is listed exactly where it stands
pub lists_staged_commit : (events : List Told) (found : Catalogued) → IsListingOf events found → (version id : ℕ) → IsStaged version id → lists found (Staged version id) ≡ stands_at events (Staged version id)
lists_staged_commit events found is version id allowed =
    sym (any_map staged_entry (is_staged_as version id) found.staged.items)
    ∙ ap (list_any (is_staged_as version id)) is.staged
    ∙ any_filter_map in_staged (is_staged_as version id) (listing events (codes "_delta_log/_staged_commits") [])
    ∙ any_same (λ (entry : Listed). passes (is_staged_as version id) (in_staged entry)) (λ (entry : Listed). bytes_eq entry.name (staged_name version id)) (is_staged version id allowed)
    (listing events (codes "_delta_log/_staged_commits") [])
    ∙ lists_name events (codes "_delta_log/_staged_commits") (staged_name version id) (no_slash_in_staged version id)

-- ---- ratifications

all_kept : (es : List (ℕ × List ℕ)) → filter (λ e. nat_le 0 e.0) es ≡ es
all_kept [] = refl
all_kept (e ∷ es) = rw (none_below e.0) (ap (λ (rest : List (ℕ × List ℕ)). e ∷ rest) (all_kept es))
  where
    none_below : (n : ℕ) → nat_le 0 n ≡ true
    none_below n = grind (arith, nat_tests)

name_found : (es : List (ℕ × List ℕ)) (version : ℕ) → name_at es version ≡ finite.find nat_cmp version es
name_found [] version = refl
name_found (e ∷ es) version = ap₂ (λ (t : Bool) (o : Option (List ℕ)). cond t (Some e.1) o) (sym (same_version e.0 version)) (name_found es version)

-- the name of a version among all ratifications is the one under which it stands ratified
pub name_at_standing : (events : List Told) (version : ℕ) → name_at (ratified_from events 0) version ≡ standing events version
name_at_standing events version =
    ap (λ (es : List (ℕ × List ℕ)). name_at es version) (all_kept (entries (standings events)))
    ∙ name_found (entries (standings events)) version
    ∙ sym (get-entries (standings events) version)
    ∙ get-standings events version

-- a version's name is the one under which it stands ratified
pub names_standing : (events : List Told) (found : Catalogued) → IsListingOf events found → (version : ℕ) → ratified_name found version ≡ standing events version
names_standing events found is version =
    ap (λ (es : List (ℕ × List ℕ)). name_at es version) is.ratified ∙ name_at_standing events version
