-- The numbers in names: decimal digits of a fixed count, and UUIDs.
use Rattle.std.specs.Prelude.{◌≡◌, ℕ, zero, suc, ◌+◌, ◌/◌, ◌%◌, ◌^◌, ◌<◌, ◌≤◌, List, [], ◌∷◌, ◌++◌, Option, Some, None, MatchOption, length, take, drop}
use Rattle.std.specs.Borrow.{Bor}
use Rattle.std.specs.Int.{to_be_bytes, from_be_bytes, w128}
use Rattle.std.specs.Str.Parse.{digits_value}
use Rattle.uuid.specs.Text.{hyphenated_text, lower, parsed_hyphenated}

-- the last `count` decimal digits of a number, with zeros in front
unfoldable pub digits : ℕ → ℕ → List ℕ
digits zero number = []
digits (suc count) number = digits count (number / 10) ++ (48 + number % 10) ∷ []

-- a version is written in 20 digits, and a part number in 10
abbrev pub version_text : ℕ → List ℕ
version_text version = digits 20 version

abbrev pub part_text : ℕ → List ℕ
part_text part = digits 10 part

-- a UUID is written in lower case with hyphens
unfoldable pub id_text : ℕ → List ℕ
id_text id = hyphenated_text lower (to_be_bytes w128 id)

-- the number that stands in `count` digits at a place of a text
unfoldable pub digits_at : ℕ → ℕ → List ℕ → ℕ
digits_at place count text = digits_value 10 (take count (drop place text))

-- the number of the UUID's bytes, where there is one
abbrev pub id_of_bytes : Option (List ℕ) → ℕ
id_of_bytes None = 0
id_of_bytes (Some bytes) = from_be_bytes w128 bytes

-- the UUID that stands at a place of a text
unfoldable pub uuid_at : ℕ → List ℕ → ℕ
uuid_at place text = id_of_bytes (parsed_hyphenated (take 36 (drop place text)))

-- a whole text that is one number of at most `limit`, or none
abbrev pub ReadsNumber : ℕ → List ℕ → Option ℕ → Type 0
ReadsNumber limit text found = MatchOption found
    ((number : ℕ) → number ≤ limit → digits (length text) number ≡ text → ⊥)
    (λ number. (number ≤ limit) × (digits (length text) number ≡ text))

-- a text that begins with a number of at most `limit` in `count` digits, and what follows it
abbrev pub SplitsNumber : ℕ → ℕ → List ℕ → Option (ℕ × Bor (List ℕ)) → Type 0
SplitsNumber count limit text found = MatchOption found
    ((number : ℕ) (rest : List ℕ) → number ≤ limit → digits count number ++ rest ≡ text → ⊥)
    (λ split. (split.0 ≤ limit) × (digits count split.0 ++ split.1.now ≡ text))

-- a whole text that is one UUID, or none
abbrev pub ReadsId : List ℕ → Option ℕ → Type 0
ReadsId text found = MatchOption found
    ((id : ℕ) → id < 2 ^ 128 → id_text id ≡ text → ⊥)
    (λ id. (id < 2 ^ 128) × (id_text id ≡ text))
