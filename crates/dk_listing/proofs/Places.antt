-- What the log's folder lists under a name of the log stands at the path of that name.
use Rattle.std.proofs.Common.{◌≡◌, ℕ, List, [], ◌∷◌, ◌++◌, refl, ap, ap₂, sym, ◌∙◌, Bool, true, false, true≢false, codes}
use Rattle.std.specs.Prelude.{◌||◌, is_some}
use Rattle.std.specs.Str.{bytes_eq}
use Rattle.std.specs.List.{list_any}
use Rattle.std.proofs.lemmas.List.Folds.{list_any-append}
use Rattle.std.proofs.lemmas.Slice.Eq.{bytes_eq-Decides}
use Rattle.dk_store.specs.Told.{Told, Listed}
use Rattle.dk_store.specs.Listing.{listing}
use Rattle.dk_store.specs.Objects.{object}
use Rattle.dk_paths.specs.declared.log_name.LogName.{LogName}
use Rattle.dk_paths.specs.declared.log_name.LogName.TheVariants as names
use Rattle.dk_paths.specs.Numbers.{digits, id_text}
use Rattle.dk_paths.specs.Names.{IsName, IsNameOf, part_pair, spelling, log_name_of}
use Rattle.dk_paths.specs.Places.{log_front}
use Rattle.dk_paths.proofs.Meanings.{IsNameOf-known}
use Rattle.dk_listing.proofs.Standing.{is_slash, lists_name, no_slash_in_digits, no_slash_in_commit, no_slash_in_id}

-- ---- names with no slash

clear : (front rest : List ℕ) → list_any is_slash front ≡ false → list_any is_slash rest ≡ false → list_any is_slash (front ++ rest) ≡ false
clear front rest first second = list_any-append is_slash front rest ∙ ap₂ (λ (a b : Bool). a || b) first second

pub no_slash_in_name : (name : LogName) → list_any is_slash (spelling name) ≡ false
no_slash_in_name (names.Commit v) = no_slash_in_commit v
no_slash_in_name (names.Classic v) = clear (digits 20 v) (codes ".checkpoint." ++ codes "parquet") (no_slash_in_digits 20 v) refl
no_slash_in_name (names.Part v part parts) =
    clear (digits 20 v) (codes ".checkpoint." ++ (part_pair part parts ++ codes ".parquet")) (no_slash_in_digits 20 v)
    (clear (part_pair part parts) (codes ".parquet") (clear (digits 10 part) (codes "." ++ digits 10 parts) (no_slash_in_digits 10 part) (no_slash_in_digits 10 parts)) refl)
no_slash_in_name (names.V2Json v id) =
    clear (digits 20 v) (codes ".checkpoint." ++ (id_text id ++ codes ".json")) (no_slash_in_digits 20 v) (clear (id_text id) (codes ".json") (no_slash_in_id id) refl)
no_slash_in_name (names.V2Parquet v id) =
    clear (digits 20 v) (codes ".checkpoint." ++ (id_text id ++ codes ".parquet")) (no_slash_in_digits 20 v) (clear (id_text id) (codes ".parquet") (no_slash_in_id id) refl)
no_slash_in_name (names.Compacted first last) =
    clear (digits 20 first) (codes "." ++ (digits 20 last ++ codes ".compacted.json")) (no_slash_in_digits 20 first) (clear (digits 20 last) (codes ".compacted.json") (no_slash_in_digits 20 last) refl)
no_slash_in_name names.Hint = refl
no_slash_in_name names.Other = refl

-- ---- a listed name

-- a name that may be, and whose object stands
pub record Stands (events : List Told) (name : LogName) : Type 0 where
  pub allowed : IsName name
  pub stands : is_some (object events (log_front ++ spelling name)) ≡ true

true_or : (x : Bool) → (x || true) ≡ true
true_or true = refl
true_or false = refl

-- one of the entries has a text whose meaning passes the test
abbrev HasText : (LogName → Bool) → List Listed → Type 0
HasText test entries = (text : List ℕ) × (test (log_name_of text) ≡ true) × (list_any (λ (entry : Listed). bytes_eq entry.name text) entries ≡ true)

any_text : (test : LogName → Bool) (entries : List Listed) → list_any (λ (entry : Listed). test (log_name_of entry.name)) entries ≡ true → HasText test entries
any_text test [] is = absurd (true≢false (sym is))
any_text test (entry ∷ entries) is = by (test (log_name_of entry.name)) refl is (any_text test entries)
  where
    by : (here : Bool) → test (log_name_of entry.name) ≡ here → (here || list_any (λ (x : Listed). test (log_name_of x.name)) entries) ≡ true
        → (list_any (λ (x : Listed). test (log_name_of x.name)) entries ≡ true → HasText test entries) → HasText test (entry ∷ entries)
    by true passes any later =
        (entry.name, passes, ap (λ (b : Bool). b || list_any (λ (x : Listed). bytes_eq x.name entry.name) entries) ((bytes_eq-Decides entry.name entry.name).1 refl))
    by false passes any later =
        let found = later any in
        (found.0, found.1, ap (λ (b : Bool). bytes_eq entry.name found.0 || b) found.2 ∙ true_or (bytes_eq entry.name found.0))

named_stands : (events : List Told) (text : List ℕ) (name : LogName) → IsName name → spelling name ≡ text
    → list_any (λ (entry : Listed). bytes_eq entry.name text) (listing events (codes "_delta_log") []) ≡ true → Stands events name
named_stands events text name allowed written is = record {
  allowed = allowed;
  stands = sym (lists_name events (codes "_delta_log") (spelling name) (no_slash_in_name name))
      ∙ ap (λ (t : List ℕ). list_any (λ (entry : Listed). bytes_eq entry.name t) (listing events (codes "_delta_log") [])) written ∙ is;
}

of_text : (events : List Told) (test : LogName → Bool) (text : List ℕ) (name : LogName) → test names.Other ≡ false → IsNameOf text name → test name ≡ true
    → list_any (λ (entry : Listed). bytes_eq entry.name text) (listing events (codes "_delta_log") []) ≡ true → (found : LogName) × (test found ≡ true) × Stands events found
of_text events test text (names.Commit v) other says passes is = (names.Commit v, passes, named_stands events text (names.Commit v) says.0 says.1 is)
of_text events test text (names.Classic v) other says passes is = (names.Classic v, passes, named_stands events text (names.Classic v) says.0 says.1 is)
of_text events test text (names.Part v part parts) other says passes is = (names.Part v part parts, passes, named_stands events text (names.Part v part parts) says.0 says.1 is)
of_text events test text (names.V2Json v id) other says passes is = (names.V2Json v id, passes, named_stands events text (names.V2Json v id) says.0 says.1 is)
of_text events test text (names.V2Parquet v id) other says passes is = (names.V2Parquet v id, passes, named_stands events text (names.V2Parquet v id) says.0 says.1 is)
of_text events test text (names.Compacted first last) other says passes is = (names.Compacted first last, passes, named_stands events text (names.Compacted first last) says.0 says.1 is)
of_text events test text names.Hint other says passes is = (names.Hint, passes, named_stands events text names.Hint says.0 says.1 is)
of_text events test text names.Other other says passes is = absurd (true≢false (sym passes ∙ other))

-- where a test of names that no other name passes is passed in the log's folder, the object of a name that passes it stands
pub listed_stands : (events : List Told) (test : LogName → Bool) → test names.Other ≡ false
    → list_any (λ (entry : Listed). test (log_name_of entry.name)) (listing events (codes "_delta_log") []) ≡ true → (name : LogName) × (test name ≡ true) × Stands events name
listed_stands events test other is =
    let found = any_text test (listing events (codes "_delta_log") []) is in
    of_text events test found.0 (log_name_of found.0) other (IsNameOf-known found.0 (log_name_of found.0) refl) found.1 found.2
