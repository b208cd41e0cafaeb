-- What an interval text means: a sum over its pairs of a number and a unit.
use Rattle.std.specs.Prelude.{ℕ, ℤ, pos, ◌*◌, ◌==◌, ◌&&◌, ◌||◌, nat_le, Bool, Option, Some, None, List, [], ◌∷◌, ◌++◌, length, sum, if◌then◌else◌, codes}
use Rattle.std.specs.List.{list_all}
use Rattle.std.specs.Char.{is_ascii_digit}
use Rattle.std.specs.Str.{str_eq_ignore_ascii_case}
use Rattle.std.specs.Str.Parse.{digits_value}

-- a word that ends, before the words that follow; two spaces have no word between them
abbrev pub ended : List ℕ → List (List ℕ) → List (List ℕ)
ended [] words = words
ended (byte ∷ bytes) words = (byte ∷ bytes) ∷ words

-- the words of a text, where the first one goes on after `word`
abbrev pub words_after : List ℕ → List ℕ → List (List ℕ)
words_after word [] = ended word []
words_after word (byte ∷ text) = if byte == 32 then ended word (words_after [] text) else words_after (word ++ byte ∷ []) text

-- the words of a text, which stand between spaces
abbrev pub words : List ℕ → List (List ℕ)
words text = words_after [] text

-- a number has 1 to 12 decimal digits
abbrev pub amount_of : List ℕ → Option ℕ
amount_of word = if nat_le 1 (length word) && (nat_le (length word) 12 && list_all is_ascii_digit word) then Some (digits_value 10 word) else None

-- a word, with or without `s` at its end, without regard to ASCII case
abbrev pub is_unit : List ℕ → List ℕ → Bool
is_unit word name = str_eq_ignore_ascii_case word name || str_eq_ignore_ascii_case word (name ++ codes "s")

-- how many milliseconds a unit has
abbrev pub unit_of : List ℕ → Option ℕ
unit_of word =
    if is_unit word (codes "millisecond") then Some 1
    else if is_unit word (codes "second") then Some 1000
    else if is_unit word (codes "minute") then Some 60000
    else if is_unit word (codes "hour") then Some 3600000
    else if is_unit word (codes "day") then Some 86400000
    else if is_unit word (codes "week") then Some 604800000
    else None

-- a number of units
abbrev pub times : Option ℕ → Option ℕ → Option ℕ
times None unit = None
times (Some number) None = None
times (Some number) (Some unit) = Some (number * unit)

-- a pair's milliseconds before those of the pairs that follow
abbrev pub before_pairs : Option ℕ → Option (List ℕ) → Option (List ℕ)
before_pairs None values = None
before_pairs (Some value) None = None
before_pairs (Some value) (Some values) = Some (value ∷ values)

-- the milliseconds of each pair
abbrev pub pair_values : List (List ℕ) → Option (List ℕ)
pair_values [] = Some []
pair_values (number ∷ []) = None
pair_values (number ∷ (unit ∷ rest)) = before_pairs (times (amount_of number) (unit_of unit)) (pair_values rest)

-- the sum of one to eight pairs
abbrev pub sum_of_pairs : Option (List ℕ) → Option ℤ
sum_of_pairs None = None
sum_of_pairs (Some values) = if nat_le 1 (length values) && nat_le (length values) 8 then Some (pos (sum values)) else None

-- the words without the word `interval` in front
abbrev pub without_interval : List (List ℕ) → List (List ℕ)
without_interval [] = []
without_interval (word ∷ rest) = if str_eq_ignore_ascii_case word (codes "interval") then rest else word ∷ rest

-- the milliseconds of an interval text, where it is one
abbrev pub interval_of : List ℕ → Option ℤ
interval_of text = sum_of_pairs (pair_values (without_interval (words text)))
