-- What a text names: each name that is written is read as itself, and what a text names is written so, or is no name.
use Rattle.std.proofs.Common.{◌≡◌, ℕ, ◌+◌, ◌^◌, ◌<◌, ◌≤◌, List, ◌++◌, length, take, drop, refl, ap, sym, subst, ◌∙◌, arith, codes, Bool, true, false, true≢false, if◌then◌else◌, Option}
use Rattle.std.specs.Prelude.{nat_lt, nat_le, ◌&&◌}
use Rattle.std.specs.Str.{bytes_eq}
use Rattle.std.specs.Str.Parse.{digits_value}
use Rattle.std.proofs.lemmas.Bool.Decides.{nat_tests}
use Rattle.std.proofs.lemmas.Slice.Eq.{bytes_eq-Decides}
use Rattle.std.proofs.lemmas.List.{append_assoc, length-append, drop-drop, take_at}
use Rattle.uuid.specs.Text.{parsed_hyphenated}
use Rattle.uuid.proofs.OrderLemmas.{from_be_bytes-to_be_bytes_16}
use Rattle.dk_paths.specs.declared.log_name.LogName.{LogName}
use Rattle.dk_paths.specs.declared.log_name.LogName.TheVariants.{Commit, Classic, Part, V2Json, V2Parquet, Compacted, Hint, Other}
use Rattle.dk_paths.specs.Numbers.{digits, version_text, part_text, id_text, digits_at, uuid_at, id_of_bytes}
use Rattle.dk_paths.specs.Names.{IsNameOf, IsName, is_name, spelling, part_pair, commit_name, candidate, if_spelled, log_name_of}
use Rattle.dk_paths.proofs.Digits.{length-digits, take-digits, drop-digits, value-digits}
use Rattle.dk_paths.proofs.Uuids.{length-id_text, parsed_hyphenated-id_text}
use Rattle.dk_paths.proofs.Spelled.{version_small, part_small}

-- the number whose digits stand at a place
pub digits_at-digits : (place count number : ℕ) (text rest : List ℕ) → number < 10 ^ count → drop place text ≡ digits count number ++ rest
    → digits_at place count text ≡ number
unfolding digits_at
digits_at-digits place count number text rest small at =
    ap (λ (found : List ℕ). digits_value 10 (take count found)) at ∙ ap (digits_value 10) (take-digits count number rest) ∙ value-digits count number small

-- the UUID whose spelling stands at a place
pub uuid_at-text : (place id : ℕ) (text rest : List ℕ) → id < 2 ^ 128 → drop place text ≡ id_text id ++ rest → uuid_at place text ≡ id
unfolding uuid_at
uuid_at-text place id text rest small at =
    let here : take 36 (drop place text) ≡ id_text id = ap (take 36) at ∙ take_at (id_text id) rest 36 (length-id_text id) in
    ap (λ (found : List ℕ). id_of_bytes (parsed_hyphenated found)) here
    ∙ ap (λ (found : Option (List ℕ)). id_of_bytes found) (sym (parsed_hyphenated-id_text id))
    ∙ from_be_bytes-to_be_bytes_16 id small

-- the lengths of names
pub length_versioned : (version : ℕ) (rest : List ℕ) → length (version_text version ++ rest) ≡ 20 + length rest
length_versioned version rest = omega (arith, length-append (version_text version) rest, length-digits 20 version)

pub length_id : (id : ℕ) (rest : List ℕ) → length (id_text id ++ rest) ≡ 36 + length rest
length_id id rest = omega (arith, length-append (id_text id) rest, length-id_text id)

length_pair : (part parts : ℕ) → length (part_pair part parts) ≡ 21
length_pair part parts = omega (arith, length-append (part_text part) (codes "." ++ part_text parts), length-digits 10 part, length-digits 10 parts)

pub behind_version : (version : ℕ) (rest : List ℕ) (n : ℕ) → drop (20 + n) (version_text version ++ rest) ≡ drop n rest
behind_version version rest n = sym (drop-drop n 20 (version_text version ++ rest)) ∙ ap (drop n) (drop-digits 20 version rest)

behind_part : (part : ℕ) (rest : List ℕ) → drop 11 (part_text part ++ rest) ≡ drop 1 rest
behind_part part rest = sym (drop-drop 1 10 (part_text part ++ rest)) ∙ ap (drop 1) (drop-digits 10 part rest)

read_back : (name : LogName) → IsName name → candidate (length (spelling name)) (spelling name) ≡ name
read_back (Commit v) is =
    let text = spelling (Commit v) in
    let long : length text ≡ 25 = length_versioned v (codes ".json") in
    ap (λ n. candidate n text) long ∙ ap Commit (digits_at-digits 0 20 v text (codes ".json") (version_small v is) refl)
read_back (Classic v) is =
    let text = spelling (Classic v) in
    let rest = codes ".checkpoint." ++ codes "parquet" in
    let long : length text ≡ 39 = length_versioned v rest in
    ap (λ n. candidate n text) long ∙ ap Classic (digits_at-digits 0 20 v text rest (version_small v is) refl)
read_back (Part v part parts) is =
    let text = spelling (Part v part parts) in
    let pair = part_pair part parts ++ codes ".parquet" in
    let rest = codes ".checkpoint." ++ pair in
    let long : length text ≡ 61 = omega (arith, length_versioned v rest, length-append (part_pair part parts) (codes ".parquet"), length_pair part parts) in
    let behind : drop 32 text ≡ part_text part ++ (codes "." ++ part_text parts ++ codes ".parquet") =
    behind_version v rest 12 ∙ append_assoc (part_text part) (codes "." ++ part_text parts) (codes ".parquet") in
    let last : drop 43 text ≡ part_text parts ++ codes ".parquet" =
    sym (drop-drop 11 32 text) ∙ ap (drop 11) behind ∙ behind_part part (codes "." ++ part_text parts ++ codes ".parquet") in
    let most : part ≤ parts = is.1.last in
    let small : parts < 2 ^ 32 = is.1.small in
    let part_below : part < 2 ^ 32 = omega arith in
    ap (λ n. candidate n text) long ∙ ap (λ n. Part n (digits_at 32 10 text) (digits_at 43 10 text)) (digits_at-digits 0 20 v text rest (version_small v is.0) refl)
    ∙ ap (λ n. Part v n (digits_at 43 10 text)) (digits_at-digits 32 10 part text (codes "." ++ part_text parts ++ codes ".parquet") (part_small part part_below) behind)
    ∙ ap (λ n. Part v part n) (digits_at-digits 43 10 parts text (codes ".parquet") (part_small parts small) last)
read_back (V2Json v id) is =
    let text = spelling (V2Json v id) in
    let behind = id_text id ++ codes ".json" in
    let rest = codes ".checkpoint." ++ behind in
    let long : length text ≡ 73 = omega (arith, length_versioned v rest, length_id id (codes ".json")) in
    ap (λ n. candidate n text) long ∙ ap (λ n. V2Json n (uuid_at 32 text)) (digits_at-digits 0 20 v text rest (version_small v is.0) refl)
    ∙ ap (λ n. V2Json v n) (uuid_at-text 32 id text (codes ".json") is.1 (behind_version v rest 12))
read_back (V2Parquet v id) is =
    let text = spelling (V2Parquet v id) in
    let behind = id_text id ++ codes ".parquet" in
    let rest = codes ".checkpoint." ++ behind in
    let long : length text ≡ 76 = omega (arith, length_versioned v rest, length_id id (codes ".parquet")) in
    ap (λ n. candidate n text) long ∙ ap (λ n. V2Parquet n (uuid_at 32 text)) (digits_at-digits 0 20 v text rest (version_small v is.0) refl)
    ∙ ap (λ n. V2Parquet v n) (uuid_at-text 32 id text (codes ".parquet") is.1 (behind_version v rest 12))
read_back (Compacted first last) is =
    let text = spelling (Compacted first last) in
    let behind = version_text last ++ codes ".compacted.json" in
    let rest = codes "." ++ behind in
    let long : length text ≡ 56 = omega (arith, length_versioned first rest, length_versioned last (codes ".compacted.json")) in
    let small : first < 2 ^ 63 = omega (arith, is.0, is.1) in
    ap (λ n. candidate n text) long ∙ ap (λ n. Compacted n (digits_at 21 20 text)) (digits_at-digits 0 20 first text rest (version_small first small) refl)
    ∙ ap (λ n. Compacted first n) (digits_at-digits 21 20 last text (codes ".compacted.json") (version_small last is.1) (behind_version first rest 1))
read_back Hint is = refl
read_back Other is = absurd is

pub both : (x y : Bool) → x ≡ true → y ≡ true → (x && y) ≡ true
both true true p q = refl
both true false p q = q
both false y p q = p

pub record Both (x y : Bool) : Type 0 where
  pub left : x ≡ true
  pub right : y ≡ true

pub both-is : (x y : Bool) → (x && y) ≡ true → Both x y
both-is true true p = record { left = refl; right = refl }
both-is true false p = record { left = refl; right = p }
both-is false y p = absurd (true≢false (sym p))

pub below-yes : (m n : ℕ) → m < n → nat_lt m n ≡ true
below-yes m n h = grind (arith, nat_tests)

pub below-is : (m n : ℕ) → nat_lt m n ≡ true → m < n
below-is m n h = grind (arith, nat_tests)

most-yes : (m n : ℕ) → m ≤ n → nat_le m n ≡ true
most-yes m n h = grind (arith, nat_tests)

most-is : (m n : ℕ) → nat_le m n ≡ true → m ≤ n
most-is m n h = grind (arith, nat_tests)

-- the test of a name's numbers says what is allowed
pub is_name-yes : (name : LogName) → IsName name → is_name name ≡ true
is_name-yes (Commit v) is = below-yes v (2 ^ 63) is
is_name-yes (Classic v) is = below-yes v (2 ^ 63) is
is_name-yes (Part v part parts) is =
    both _ _ (below-yes v (2 ^ 63) is.0) (both _ _ (most-yes 1 part is.1.first) (both _ _ (most-yes part parts is.1.last) (below-yes parts (2 ^ 32) is.1.small)))
is_name-yes (V2Json v id) is = both _ _ (below-yes v (2 ^ 63) is.0) (below-yes id (2 ^ 128) is.1)
is_name-yes (V2Parquet v id) is = both _ _ (below-yes v (2 ^ 63) is.0) (below-yes id (2 ^ 128) is.1)
is_name-yes (Compacted first last) is = both _ _ (below-yes first last is.0) (below-yes last (2 ^ 63) is.1)
is_name-yes Hint is = refl
is_name-yes Other is = absurd is

pub is_name-is : (name : LogName) → is_name name ≡ true → IsName name
is_name-is (Commit v) test = below-is v (2 ^ 63) test
is_name-is (Classic v) test = below-is v (2 ^ 63) test
is_name-is (Part v part parts) test =
    let version = both-is _ _ test in
    let first = both-is _ _ version.right in
    let last = both-is _ _ first.right in
    (below-is v (2 ^ 63) version.left, record { first = most-is 1 part first.left; last = most-is part parts last.left; small = below-is parts (2 ^ 32) last.right })
is_name-is (V2Json v id) test = let two = both-is _ _ test in (below-is v (2 ^ 63) two.left, below-is id (2 ^ 128) two.right)
is_name-is (V2Parquet v id) test = let two = both-is _ _ test in (below-is v (2 ^ 63) two.left, below-is id (2 ^ 128) two.right)
is_name-is (Compacted first last) test = let two = both-is _ _ test in (below-is first last two.left, below-is last (2 ^ 63) two.right)
is_name-is Hint test = tt
is_name-is Other test = true≢false (sym test)

-- a name that a text spells
pub record Spells (text : List ℕ) (name : LogName) : Type 0 where
  pub allowed : IsName name
  pub written : spelling name ≡ text

spelled_test : (name : LogName) (text : List ℕ) → Spells text name → (is_name name && bytes_eq (spelling name) text) ≡ true
spelled_test name text spells = both _ _ (is_name-yes name spells.allowed) ((bytes_eq-Decides (spelling name) text).1 spells.written)

test_spells : (name : LogName) (text : List ℕ) → (is_name name && bytes_eq (spelling name) text) ≡ true → Spells text name
test_spells name text test = let two = both-is _ _ test in
    record { allowed = is_name-is name two.left; written = (bytes_eq-Decides (spelling name) text).0 two.right }

chosen : (test : Bool) (name : LogName) → test ≡ true → (if test then name else Other) ≡ name
chosen true name is = refl
chosen false name is = absurd (true≢false (sym is))

not_chosen : (test : Bool) (name : LogName) → (test ≡ true → ⊥) → (if test then name else Other) ≡ Other
not_chosen true name no_test = absurd (no_test refl)
not_chosen false name no_test = refl

-- each name that is written is read as itself
pub name_of-spelling : (name : LogName) → IsName name → log_name_of (spelling name) ≡ name
unfolding log_name_of
name_of-spelling name is =
    ap (λ (read : LogName). if_spelled read (spelling name)) (read_back name is)
    ∙ chosen _ name (spelled_test name (spelling name) (record { allowed = is; written = refl }))

-- a text that spells a name names it
pub name_of-spelled : (text : List ℕ) (name : LogName) → IsName name → spelling name ≡ text → log_name_of text ≡ name
name_of-spelled text name is written = ap log_name_of (sym written) ∙ name_of-spelling name is

-- a text that spells no name is another
pub name_of-other : (text : List ℕ) → ((name : LogName) → IsName name → spelling name ≡ text → ⊥) → log_name_of text ≡ Other
unfolding log_name_of
name_of-other text none = not_chosen _ (candidate (length text) text)
    (λ test. let spells = test_spells (candidate (length text) text) text test in none (candidate (length text) text) spells.allowed spells.written)

-- what a text names is the one name that it says
pub IsNameOf-one : (text : List ℕ) (name : LogName) → IsNameOf text name → name ≡ log_name_of text
IsNameOf-one text (Commit v) names = sym (name_of-spelled text (Commit v) names.0 names.1)
IsNameOf-one text (Classic v) names = sym (name_of-spelled text (Classic v) names.0 names.1)
IsNameOf-one text (Part v part parts) names = sym (name_of-spelled text (Part v part parts) names.0 names.1)
IsNameOf-one text (V2Json v id) names = sym (name_of-spelled text (V2Json v id) names.0 names.1)
IsNameOf-one text (V2Parquet v id) names = sym (name_of-spelled text (V2Parquet v id) names.0 names.1)
IsNameOf-one text (Compacted first last) names = sym (name_of-spelled text (Compacted first last) names.0 names.1)
IsNameOf-one text Hint names = sym (name_of-spelled text Hint names.0 names.1)
IsNameOf-one text Other names = sym (name_of-other text names)

-- what a text names, it spells
names_by : (text : List ℕ) (name : LogName) → Spells text name → IsNameOf text name
names_by text (Commit v) spells = (spells.allowed, spells.written)
names_by text (Classic v) spells = (spells.allowed, spells.written)
names_by text (Part v part parts) spells = (spells.allowed, spells.written)
names_by text (V2Json v id) spells = (spells.allowed, spells.written)
names_by text (V2Parquet v id) spells = (spells.allowed, spells.written)
names_by text (Compacted first last) spells = (spells.allowed, spells.written)
names_by text Hint spells = (spells.allowed, spells.written)
names_by text Other spells = absurd spells.allowed

-- a text that names nothing spells no name
nothing_spelled : (text : List ℕ) → log_name_of text ≡ Other → IsNameOf text Other
nothing_spelled text other = λ name is written. subst IsName (sym (name_of-spelled text name is written) ∙ other) is

named_by : (text : List ℕ) (test : Bool) (read : LogName) → (test ≡ true → Spells text read) → (test ≡ false → IsNameOf text Other)
    → IsNameOf text (if test then read else Other)
named_by text true read spells none = names_by text read (spells refl)
named_by text false read spells none = none refl

-- each text says what it names
pub IsNameOf-name_of : (text : List ℕ) → IsNameOf text (log_name_of text)
unfolding log_name_of
IsNameOf-name_of text =
    let read = candidate (length text) text in
    named_by text (is_name read && bytes_eq (spelling read) text) read (test_spells read text)
    (λ failed. nothing_spelled text (not_chosen _ read (λ passed. true≢false (sym passed ∙ failed))))

-- the same of a name that is known
pub IsNameOf-known : (text : List ℕ) (name : LogName) → log_name_of text ≡ name → IsNameOf text name
IsNameOf-known text name is = let P : LogName → Type 0 = IsNameOf text in subst P is (IsNameOf-name_of text)

-- a commit's name names the commit, and what names a commit is its name
pub name_of-commit_name : (version : ℕ) → version < 2 ^ 63 → log_name_of (commit_name version) ≡ Commit version
name_of-commit_name version small = name_of-spelling (Commit version) small

pub record IsCommitName (text : List ℕ) (version : ℕ) : Type 0 where
  pub small : version < 2 ^ 63
  pub written : text ≡ commit_name version

pub named_commit : (text : List ℕ) (version : ℕ) → log_name_of text ≡ Commit version → IsCommitName text version
named_commit text version is = let names = IsNameOf-known text (Commit version) is in
    record { small = names.0; written = sym names.1 }
