-- The number that a run begins with, as the code keeps it.
use Rattle.std.specs.Prelude.{◌≡◌, ℕ, ◌-◌, ◌/◌, ◌%◌, ◌^◌, ◌==◌, min, if◌then◌else◌, Some, List}
use Rattle.dk_grammar.specs.Varint.{varint_at}
use Rattle.dk_hybrid.specs.declared.header.Header.{Header}
use Rattle.dk_hybrid.specs.declared.header.Header.TheVariants.{Copies, Groups}

-- a number past the greatest u64 stands as that
abbrev pub capped : ℕ → ℕ
capped n = min n (2 ^ 64 - 1)

-- even before copies, odd before groups
abbrev pub kept_header : ℕ → Header
kept_header n = if n % 2 == 0 then Copies (capped (n / 2)) else Groups (capped (n / 2))

-- the bytes begin with a number that the code keeps as this one, and the rest stands behind it
pub record BeginNumber (bytes : List ℕ) (kept : ℕ) (rest : List ℕ) : Type 0 where
  pub number : ℕ
  pub read : varint_at bytes ≡ Some (number, rest)
  pub kept_as : kept ≡ capped number

-- the same of a header
pub record BeginHeader (bytes : List ℕ) (header : Header) (rest : List ℕ) : Type 0 where
  pub number : ℕ
  pub read : varint_at bytes ≡ Some (number, rest)
  pub kept_as : header ≡ kept_header number
