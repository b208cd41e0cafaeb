-- Runs, the hybrid encoding of levels and indices in Parquet (RLE and bit packing). A run begins with a number that says what it is and
-- how long. The width is how many bits a value has.
use Rattle.std.specs.Prelude.{◌≡◌, ℕ, ◌+◌, ◌-◌, ◌*◌, ◌/◌, ◌%◌, ◌^◌, ◌<◌, List, [], ◌∷◌, ◌++◌, length, take, replicate, All}
use Rattle.std.specs.List.{flat_map}
use Rattle.dk_grammar.specs.Varint.{IsVarint}
use Rattle.dk_grammar.specs.Digits.{number_of}

-- so many copies of one value, or values in groups of eight
pub data Run : Type 0 where
  repeated : ℕ → ℕ → Run
  packed : List ℕ → Run

abbrev pub values_in : Run → List ℕ
values_in (repeated copies value) = replicate copies value
values_in (packed values) = values

-- The values stand in the bytes one behind another, the least bit first: bytes and values are digits of one number.
pub record ArePacked (width : ℕ) (values bytes : List ℕ) : Type 0 where
  pub fit : All (λ value. value < 2 ^ width) values
  pub bits : width * length values ≡ 8 * length bytes
  pub number : number_of (2 ^ width) values ≡ number_of 256 bytes

-- how many whole bytes hold so many bits
abbrev pub bytes_for : ℕ → ℕ
bytes_for width = (width + 7) / 8

-- The number that a run begins with: even before copies, odd before groups.
abbrev pub header_of : Run → ℕ
header_of (repeated copies value) = 2 * copies
header_of (packed values) = 2 * (length values / 8) + 1

-- What stands behind the number: the one value, which may be too large for the width, or the groups.
abbrev pub IsBody : ℕ → Run → List ℕ → Type 0
IsBody width (repeated copies value) bytes = (length bytes ≡ bytes_for width) × (number_of 256 bytes ≡ value)
IsBody width (packed values) bytes = (length values % 8 ≡ 0) × ArePacked width values bytes

-- the bytes are the run, no more and no less
pub record IsRun (width : ℕ) (run : Run) (bytes : List ℕ) : Type 0 where
  pub header : List ℕ
  pub body : List ℕ
  pub whole : bytes ≡ header ++ body
  pub number : IsVarint header (header_of run)
  pub values : IsBody width run body

-- the bytes are the runs, one behind another
abbrev pub AreRuns : ℕ → List Run → List ℕ → Type 0
AreRuns width [] bytes = bytes ≡ []
AreRuns width (run ∷ runs) bytes = (front : List ℕ) × (rest : List ℕ) × (bytes ≡ front ++ rest) × IsRun width run front × AreRuns width runs rest

-- A run is begun only while there are fewer values than wanted, and in the end there are enough.
abbrev pub AreNeeded : ℕ → List Run → Type 0
AreNeeded count [] = count ≡ 0
AreNeeded count (run ∷ runs) = (0 < count) × AreNeeded (count - length (values_in run)) runs

-- The bytes are the runs that it takes to have so many values, and these are the first values of the runs. What more the last run has is padding.
pub record AreFirst (width count : ℕ) (values bytes : List ℕ) : Type 0 where
  pub runs : List Run
  pub spelled : AreRuns width runs bytes
  pub needed : AreNeeded count runs
  pub first : values ≡ take count (flat_map values_in runs)

-- a run begins with the bytes, and they aren't the whole of it
pub record BeginRun (width : ℕ) (bytes : List ℕ) : Type 0 where
  pub run : Run
  pub missing : List ℕ
  pub some : 0 < length missing
  pub begun : IsRun width run (bytes ++ missing)

-- The bytes end before so many values: runs that have fewer, and then a run that isn't whole.
pub record EndShort (width count : ℕ) (bytes : List ℕ) : Type 0 where
  pub runs : List Run
  pub front : List ℕ
  pub rest : List ℕ
  pub whole : bytes ≡ front ++ rest
  pub spelled : AreRuns width runs front
  pub fewer : length (flat_map values_in runs) < count
  pub begun : BeginRun width rest
