-- What the calls that write runs leave.
use Rattle.std.specs.Prelude.{◌≡◌, ℕ, ◌+◌, ◌-◌, ◌*◌, ◌/◌, ◌<◌, ◌≤◌, List, ◌++◌, length, take}
use Rattle.dk_grammar.specs.Varint.{IsVarint}
use Rattle.dk_grammar.specs.Runs.{Run, values_in, IsRun}

-- new is old with a spelling of the number at its end, and no long one
pub record AppendsNumber (number : ℕ) (old new : List ℕ) : Type 0 where
  pub bytes : List ℕ
  pub added : new ≡ old ++ bytes
  pub spells : IsVarint bytes number
  pub size : length bytes ≤ 1 + number / 128

-- New is old with a run at its end, which has the values and then padding. It takes no more than 5 bytes for each.
pub record AppendsRun (width : ℕ) (values padding old new : List ℕ) : Type 0 where
  pub run : Run
  pub bytes : List ℕ
  pub added : new ≡ old ++ bytes
  pub is : IsRun width run bytes
  pub holds : values_in run ≡ values ++ padding
  pub size : length bytes ≤ 5 * length (values ++ padding)

-- A run of the first so many values is added, with padding only where no values are left.
pub record TakesRun (width : ℕ) (values : List ℕ) (count : ℕ) (old new : List ℕ) : Type 0 where
  pub some : 0 < count
  pub within : count ≤ length values
  pub padding : List ℕ
  pub short : length padding < 8
  pub last : count < length values → length padding ≡ 0
  pub appends : AppendsRun width (take count values) padding old new

-- how many values are missing to the last group of eight
abbrev pub padding_of : ℕ → ℕ
padding_of count = (count + 7) / 8 * 8 - count
