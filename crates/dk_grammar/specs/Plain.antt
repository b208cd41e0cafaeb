-- Values in Parquet's encoding PLAIN: numbers in little-endian two's complement, texts behind their length, flags bit by bit.
use Rattle.std.specs.Prelude.{ℕ, suc, ◌-◌, ◌^◌, ◌<◌, ℤ, pos, negsuc, Bool, true, false, List, ◌++◌, length, map, FitsSigned}
use Rattle.std.specs.Int.{w32, w64}
use Rattle.std.specs.List.{flat_map}
use Rattle.dk_grammar.specs.Digits.{digits_of}
use Rattle.dk_grammar.specs.Runs.{ArePacked}

-- a number of so many bytes, the least byte first
abbrev pub little : ℕ → ℕ → List ℕ
little count n = digits_of 256 count n

-- a whole number of so many bytes as two's complement has it
abbrev pub complement : ℕ → ℤ → ℕ
complement count (pos n) = n
complement count (negsuc n) = 256 ^ count - suc n

-- a value of INT32, INT64 or BYTE_ARRAY
pub data Plain : Type 0 where
  int32 : ℤ → Plain
  int64 : ℤ → Plain
  chars : List ℕ → Plain

-- what can be spelled
abbrev pub IsPlain : Plain → Type 0
IsPlain (int32 z) = FitsSigned w32 z
IsPlain (int64 z) = FitsSigned w64 z
IsPlain (chars text) = length text < 2 ^ 32

abbrev pub plain_bytes : Plain → List ℕ
plain_bytes (int32 z) = little 4 (complement 4 z)
plain_bytes (int64 z) = little 8 (complement 8 z)
plain_bytes (chars text) = little 4 (length text) ++ text

-- the values one behind another
abbrev pub plain_values : List Plain → List ℕ
plain_values values = flat_map plain_bytes values

-- values of one type
abbrev pub AreAlike : Plain → Plain → Type 0
AreAlike (int32 y) (int32 z) = Unit {0}
AreAlike (int64 y) (int64 z) = Unit {0}
AreAlike (chars text) (chars other) = Unit {0}
AreAlike value other = ⊥

abbrev pub bit_of : Bool → ℕ
bit_of false = 0
bit_of true = 1

-- The bytes are the flags, eight a byte and the least bit first. What the last byte has behind them is free.
pub record AreFlags (flags : List Bool) (bytes : List ℕ) : Type 0 where
  pub padding : List ℕ
  pub short : length padding < 8
  pub packed : ArePacked 1 (map bit_of flags ++ padding) bytes
