-- What follows the first version of a name, and which endings are apart.
use Rattle.std.proofs.Common.{◌≡◌, ℕ, ◌-◌, ◌^◌, ◌<◌, ◌≤◌, List, [], ◌∷◌, ◌++◌, length, get_or, take, drop, refl, ap, sym, subst, ◌∙◌, arith, codes, Bool, true, false, true≢false}
use Rattle.std.specs.Prelude.{◌==◌}
use Rattle.std.specs.Str.{bytes_eq}
use Rattle.std.proofs.lemmas.Slice.Eq.{bytes_eq-Decides}
use Rattle.std.proofs.lemmas.List.{append-nil, append_assoc, append_cancel_right, length-append, get_or_append_left, same_from_push}
use Rattle.dk_paths.specs.declared.log_name.LogName.{LogName}
use Rattle.dk_paths.specs.declared.log_name.LogName.TheVariants.{Commit, Classic, Part, V2Json, V2Parquet, Compacted, Hint, Other}
use Rattle.dk_paths.specs.Numbers.{digits, version_text, part_text, id_text}
use Rattle.dk_paths.specs.Names.{IsNameOf, IsName, IsPart, spelling, part_pair}
use Rattle.dk_paths.proofs.Digits.{IsDigit, length-digits, digits-are, take-digits, drop-digits, value-digits}
use Rattle.std.specs.Str.Parse.{digits_value}

-- two numbers with the same digits are one
pub same_digits : (count m n : ℕ) → m < 10 ^ count → n < 10 ^ count → digits count m ≡ digits count n → m ≡ n
same_digits count m n small small' same = sym (value-digits count m small) ∙ ap (digits_value 10) same ∙ value-digits count n small'

pub version_small : (version : ℕ) → version < 2 ^ 63 → version < 10 ^ 20
version_small version small = omega arith

pub part_small : (part : ℕ) → part < 2 ^ 32 → part < 10 ^ 10
part_small part small = omega arith

-- the numbers in front of two texts, and what follows them
pub record SameFront (m n : ℕ) (rest rest' : List ℕ) : Type 0 where
  pub number : m ≡ n
  pub same_rest : rest ≡ rest'

pub same_front : (count m n : ℕ) (rest rest' : List ℕ) → m < 10 ^ count → n < 10 ^ count
    → digits count m ++ rest ≡ digits count n ++ rest' → SameFront m n rest rest'
same_front count m n rest rest' small small' same = record {
  number = same_digits count m n small small' (sym (take-digits count m rest) ∙ ap (take count) same ∙ take-digits count n rest');
  same_rest = sym (drop-digits count m rest) ∙ ap (drop count) same ∙ drop-digits count n rest';
}

-- what follows the first version of a name
abbrev pub ending : LogName → List ℕ
ending (Commit version) = codes ".json"
ending (Classic version) = codes ".checkpoint." ++ codes "parquet"
ending (Part version part parts) = codes ".checkpoint." ++ (part_pair part parts ++ codes ".parquet")
ending (V2Json version id) = codes ".checkpoint." ++ (id_text id ++ codes ".json")
ending (V2Parquet version id) = codes ".checkpoint." ++ (id_text id ++ codes ".parquet")
ending (Compacted first last) = codes "." ++ (version_text last ++ codes ".compacted.json")
ending Hint = []
ending Other = []

abbrev pub first_version : LogName → ℕ
first_version (Commit version) = version
first_version (Classic version) = version
first_version (Part version part parts) = version
first_version (V2Json version id) = version
first_version (V2Parquet version id) = version
first_version (Compacted first last) = first
first_version Hint = 0
first_version Other = 0

-- the hint begins with no version
pub hint_apart : (version : ℕ) (rest : List ℕ) → codes "_last_checkpoint" ≡ version_text version ++ rest → ⊥
hint_apart version rest same =
    let long = ap length same in
    omega (arith, long, length-append (version_text version) rest, length-digits 20 version)

pub versioned : (name : LogName) (version : ℕ) (rest : List ℕ) → IsName name → version < 2 ^ 63 → spelling name ≡ version_text version ++ rest
    → SameFront (first_version name) version (ending name) rest
versioned (Commit v) version rest is small same = same_front 20 v version _ rest (version_small v is) (version_small version small) same
versioned (Classic v) version rest is small same = same_front 20 v version _ rest (version_small v is) (version_small version small) same
versioned (Part v part parts) version rest is small same = same_front 20 v version _ rest (version_small v is.0) (version_small version small) same
versioned (V2Json v id) version rest is small same = same_front 20 v version _ rest (version_small v is.0) (version_small version small) same
versioned (V2Parquet v id) version rest is small same = same_front 20 v version _ rest (version_small v is.0) (version_small version small) same
versioned (Compacted first last) version rest is small same =
    let first_small : first < 2 ^ 63 = omega (arith, is.0, is.1) in
    same_front 20 first version _ rest (version_small first first_small) (version_small version small) same
versioned Hint version rest is small same = absurd (hint_apart version rest same)
versioned Other version rest is small same = absurd is

-- `.json` and `.parquet` end in different letters
pub json_or_parquet : (front front' : List ℕ) → front ++ codes ".json" ≡ front' ++ codes ".parquet" → ⊥
json_or_parquet front front' same =
    let last = same_from_push (front ++ codes ".jso") (front' ++ codes ".parque") 110 116
    (append_assoc front (codes ".jso") (110 ∷ []) ∙ same ∙ sym (append_assoc front' (codes ".parque") (116 ∷ []))) in
    omega (arith, last.1)

-- a version begins with a digit
pub version_is_digits : (version : ℕ) (rest text : List ℕ) → version_text version ++ rest ≡ text → IsDigit (get_or text 0 0)
version_is_digits version rest text same =
    let P : List ℕ → Type 0 = λ whole. IsDigit (get_or whole 0 0) in
    let inside : 0 < length (version_text version) = omega (arith, length-digits 20 version) in
    subst P same (let Q : ℕ → Type 0 = IsDigit in subst Q (sym (get_or_append_left (version_text version) rest 0 0 inside)) (digits-are 20 version 0 (omega arith)))

-- a text behind a version that ends in none of the known ways names nothing
pub record NoEnding (version : ℕ) (rest : List ℕ) : Type 0 where
  pub no_commit : rest ≡ codes ".json" → ⊥
  pub no_checkpoint : (kind : List ℕ) → rest ≡ codes ".checkpoint." ++ kind → ⊥
  pub no_compacted : (last : ℕ) → version < last → last < 2 ^ 63 → rest ≡ codes "." ++ (version_text last ++ codes ".compacted.json") → ⊥

no_ending_of : (name : LogName) (version : ℕ) (rest : List ℕ) → IsName name → version < 2 ^ 63 → NoEnding version rest
    → spelling name ≡ version_text version ++ rest → ⊥
no_ending_of (Commit v) version rest is small none spelled =
    let same = versioned (Commit v) version rest is small spelled in none.no_commit (sym same.same_rest)
no_ending_of (Classic v) version rest is small none spelled =
    let same = versioned (Classic v) version rest is small spelled in none.no_checkpoint _ (sym same.same_rest)
no_ending_of (Part v part parts) version rest is small none spelled =
    let same = versioned (Part v part parts) version rest is small spelled in none.no_checkpoint _ (sym same.same_rest)
no_ending_of (V2Json v id) version rest is small none spelled =
    let same = versioned (V2Json v id) version rest is small spelled in none.no_checkpoint _ (sym same.same_rest)
no_ending_of (V2Parquet v id) version rest is small none spelled =
    let same = versioned (V2Parquet v id) version rest is small spelled in none.no_checkpoint _ (sym same.same_rest)
no_ending_of (Compacted first last) version rest is small none spelled =
    let same = versioned (Compacted first last) version rest is small spelled in
    let number : first ≡ version = same.number in
    let below : version < last = omega (arith, is.0, number) in
    none.no_compacted last below is.1 (sym same.same_rest)
no_ending_of Hint version rest is small none spelled = absurd (hint_apart version rest spelled)
no_ending_of Other version rest is small none spelled = absurd is

pub no_ending : (version : ℕ) (rest : List ℕ) → version < 2 ^ 63 → NoEnding version rest → IsNameOf (version_text version ++ rest) Other
no_ending version rest small none = λ name is spelled. no_ending_of name version rest is small none spelled

-- a text behind `.checkpoint.` that is none of the known kinds names nothing
pub record NoKind (kind : List ℕ) : Type 0 where
  pub no_classic : kind ≡ codes "parquet" → ⊥
  pub no_part : (part parts : ℕ) → IsPart part parts → kind ≡ part_pair part parts ++ codes ".parquet" → ⊥
  pub no_json : (id : ℕ) → id < 2 ^ 128 → kind ≡ id_text id ++ codes ".json" → ⊥
  pub no_parquet : (id : ℕ) → id < 2 ^ 128 → kind ≡ id_text id ++ codes ".parquet" → ⊥

not_equal_letters : (j c : ℕ) → j ≡ 106 → c ≡ 99 → j ≡ c → ⊥
not_equal_letters j c is_j is_c same = omega arith

no_kind_of : (name : LogName) (version : ℕ) (kind : List ℕ) → IsName name → version < 2 ^ 63 → NoKind kind
    → spelling name ≡ version_text version ++ (codes ".checkpoint." ++ kind) → ⊥
no_kind_of (Commit v) version kind is small none spelled =
    let same = versioned (Commit v) version (codes ".checkpoint." ++ kind) is small spelled in
    let second = ap (λ (text : List ℕ). get_or text 1 0) same.same_rest in
    not_equal_letters 106 99 refl refl second
no_kind_of (Classic v) version kind is small none spelled =
    let same = versioned (Classic v) version (codes ".checkpoint." ++ kind) is small spelled in
    none.no_classic (sym (ap (drop 12) same.same_rest))
no_kind_of (Part v part parts) version kind is small none spelled =
    let same = versioned (Part v part parts) version (codes ".checkpoint." ++ kind) is small spelled in
    none.no_part part parts is.1 (sym (ap (drop 12) same.same_rest))
no_kind_of (V2Json v id) version kind is small none spelled =
    let same = versioned (V2Json v id) version (codes ".checkpoint." ++ kind) is small spelled in
    none.no_json id is.1 (sym (ap (drop 12) same.same_rest))
no_kind_of (V2Parquet v id) version kind is small none spelled =
    let same = versioned (V2Parquet v id) version (codes ".checkpoint." ++ kind) is small spelled in
    none.no_parquet id is.1 (sym (ap (drop 12) same.same_rest))
no_kind_of (Compacted first last) version kind is small none spelled =
    let same = versioned (Compacted first last) version (codes ".checkpoint." ++ kind) is small spelled in
    let digit = version_is_digits last (codes ".compacted.json") (codes "checkpoint." ++ kind) (ap (drop 1) same.same_rest) in
    let most : 99 ≤ 57 = digit.most in
    absurd (omega arith)
no_kind_of Hint version kind is small none spelled = absurd (hint_apart version (codes ".checkpoint." ++ kind) spelled)
no_kind_of Other version kind is small none spelled = absurd is

pub no_kind : (version : ℕ) (kind : List ℕ) → version < 2 ^ 63 → NoKind kind → IsNameOf (version_text version ++ (codes ".checkpoint." ++ kind)) Other
no_kind version kind small none = λ name is spelled. no_kind_of name version kind is small none spelled

-- what a failed test of two texts says, and a passed one
pub apart : (xs ys : List ℕ) (test : Bool) → test ≡ bytes_eq xs ys → test ≡ false → xs ≡ ys → ⊥
apart xs ys test is failed same = true≢false (sym ((bytes_eq-Decides xs ys).1 same) ∙ sym is ∙ failed)

pub together : (xs ys : List ℕ) (test : Bool) → test ≡ bytes_eq xs ys → test ≡ true → xs ≡ ys
together xs ys test is passed = (bytes_eq-Decides xs ys).0 (sym is ∙ passed)

-- a middle that is neither a UUID nor a part
pub record NoMiddle (middle : List ℕ) : Type 0 where
  pub no_id : (id : ℕ) → id < 2 ^ 128 → id_text id ≡ middle → ⊥
  pub no_pair : (part parts : ℕ) → IsPart part parts → part_pair part parts ≡ middle → ⊥

pub no_middle : (middle : List ℕ) → NoMiddle middle → NoKind (middle ++ codes ".parquet")
no_middle middle none = record {
  no_classic = λ same. let long = ap length same in omega (arith, long, length-append middle (codes ".parquet"));
  no_part = λ part parts is same. none.no_pair part parts is (sym (append_cancel_right middle (part_pair part parts) (codes ".parquet") same));
  no_json = λ id small same. json_or_parquet (id_text id) middle (sym same);
  no_parquet = λ id small same. none.no_id id small (sym (append_cancel_right middle (id_text id) (codes ".parquet") same));
}

-- a kind in JSON whose front is no UUID
pub no_json_kind : (kind front : List ℕ) → (kind ≡ codes "parquet" → ⊥) → kind ≡ front ++ codes ".json"
    → ((id : ℕ) → id < 2 ^ 128 → id_text id ≡ front → ⊥) → NoKind kind
no_json_kind kind front classic is none = record {
  no_classic = classic;
  no_part = λ part parts is_part same. json_or_parquet front (part_pair part parts) (sym is ∙ same);
  no_json = λ id small same. none id small (sym (append_cancel_right front (id_text id) (codes ".json") (sym is ∙ same)));
  no_parquet = λ id small same. json_or_parquet front (id_text id) (sym is ∙ same);
}

-- a kind in neither format
pub no_format : (kind : List ℕ) → (kind ≡ codes "parquet" → ⊥) → ((front : List ℕ) → kind ≡ front ++ codes ".json" → ⊥)
    → ((front : List ℕ) → kind ≡ front ++ codes ".parquet" → ⊥) → NoKind kind
no_format kind classic json parquet = record {
  no_classic = classic;
  no_part = λ part parts is same. parquet (part_pair part parts) same;
  no_json = λ id small same. json (id_text id) same;
  no_parquet = λ id small same. parquet (id_text id) same;
}

-- a name's text under an equation
pub named_along : (a b : List ℕ) (name : LogName) → a ≡ b → IsNameOf a name → IsNameOf b name
named_along a b name same names = let P : List ℕ → Type 0 = λ text. IsNameOf text name in subst P same names

-- a compacted file's name behind its first version
pub last_split : (last number : ℕ) (ending text : List ℕ) → last < 2 ^ 63 → number ≤ 2 ^ 63 - 1 → digits 20 number ++ ending ≡ text
    → version_text last ++ codes ".compacted.json" ≡ text → SameFront last number (codes ".compacted.json") ending
last_split last number ending text small fits read spelled =
    let below : number < 2 ^ 63 = omega arith in
    same_front 20 last number (codes ".compacted.json") ending (version_small last small) (version_small number below) (spelled ∙ sym read)

-- a pair of part numbers by its front
pub pair_split : (part parts number : ℕ) (rest text : List ℕ) → IsPart part parts → number ≤ 2 ^ 32 - 1 → digits 10 number ++ rest ≡ text
    → part_pair part parts ≡ text → SameFront part number (codes "." ++ part_text parts) rest
pair_split part parts number rest text is fits read spelled =
    let most : part ≤ parts = is.last in
    let small : parts < 2 ^ 32 = is.small in
    let below : number < 2 ^ 32 = omega arith in
    let part_below : part < 2 ^ 32 = omega arith in
    same_front 10 part number (codes "." ++ part_text parts) rest (part_small part part_below) (part_small number below) (spelled ∙ sym read)

pub parts_split : (parts number : ℕ) (ending text : List ℕ) → parts < 2 ^ 32 → number ≤ 2 ^ 32 - 1 → digits 10 number ++ ending ≡ text
    → part_text parts ≡ text → SameFront parts number [] ending
parts_split parts number ending text small fits read spelled =
    let below : number < 2 ^ 32 = omega arith in
    same_front 10 parts number [] ending (part_small parts small) (part_small number below) (append-nil (part_text parts) ∙ spelled ∙ sym read)

-- the three texts of a pair that was read, and what another pair of the same text has
pub record SamePair (part parts first count : ℕ) (ending : List ℕ) : Type 0 where
  pub same_part : part ≡ first
  pub same_parts : parts ≡ count
  pub no_more : [] ≡ ending

pub same_pair : (part parts first count : ℕ) (text rest text' ending : List ℕ) → IsPart part parts → first ≤ 2 ^ 32 - 1 → digits 10 first ++ rest ≡ text
    → rest ≡ codes "." ++ text' → count ≤ 2 ^ 32 - 1 → digits 10 count ++ ending ≡ text' → part_pair part parts ≡ text
    → SamePair part parts first count ending
same_pair part parts first count text rest text' ending is fits read dot fits' read' spelled =
    let front = pair_split part parts first rest text is fits read spelled in
    let behind : part_text parts ≡ text' = ap (drop 1) (front.same_rest ∙ dot) in
    let back = parts_split parts count ending text' is.small fits' read' behind in
    record { same_part = front.number; same_parts = back.number; no_more = back.same_rest }

pub nonempty : (text : List ℕ) (test : Bool) → test ≡ (length text == 0) → test ≡ false → [] ≡ text → ⊥
nonempty text test is failed same = true≢false (ap (λ (t : List ℕ). length t == 0) same ∙ sym is ∙ failed)
