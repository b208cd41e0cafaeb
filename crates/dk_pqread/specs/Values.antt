-- The values of a page, by cases on the bytes (Apache Parquet, "Encodings").
use Rattle.std.specs.Prelude.{ℕ, zero, suc, ◌*◌, ◌==◌, nat_le, if◌then◌else◌, Option, Some, None, option_map, option_and_then, List, [], ◌∷◌, ◌++◌, length, map, take}
use Rattle.std.specs.Int.{w32, w64, cast_signed}
use Rattle.std.specs.Str.{is_utf8}
use Rattle.dk_grammar.specs.Digits.{number_of, digits_of}
use Rattle.dk_pqmodel.specs.Shape as shape
use Rattle.dk_pqmodel.specs.Shape.{Leaf}
use Rattle.dk_pqmodel.specs.Datum.{Value, flag, int, chars}
use Rattle.dk_pages.specs.Split.{cut, sized}

-- a plain number or text at the front, and the bytes behind it; flags don't stand so
abbrev pub plain_at : Leaf → List ℕ → Option (Value × List ℕ)
plain_at shape.flag bytes = None
plain_at shape.int32 bytes = option_map (λ x. (int (cast_signed w32 (number_of 256 x.0)), x.1)) (cut 4 bytes)
plain_at shape.int64 bytes = option_map (λ x. (int (cast_signed w64 (number_of 256 x.0)), x.1)) (cut 8 bytes)
plain_at shape.chars bytes = option_and_then (λ x. if is_utf8 x.0 then Some (chars x.0, x.1) else None) (sized bytes)

-- so many of them
abbrev pub plains_at : Leaf → ℕ → List ℕ → Option (List Value × List ℕ)
plains_at kind zero bytes = Some ([], bytes)
plains_at kind (suc n) bytes = option_and_then (λ x. option_map (λ more. (x.0 ∷ more.0, more.1)) (plains_at kind n x.1)) (plain_at kind bytes)

-- the bits of bytes, the least of each byte first
abbrev pub bits_in : List ℕ → List ℕ
bits_in [] = []
bits_in (b ∷ bs) = digits_of 2 8 b ++ bits_in bs

abbrev pub flag_of : ℕ → Value
flag_of bit = flag (bit == 1)

-- so many flags, bit by bit
abbrev pub flags_at : ℕ → List ℕ → Option (List Value)
flags_at count bytes = if nat_le count (8 * length bytes) then Some (map flag_of (take count (bits_in bytes))) else None

-- a flag from a number, 0 or 1
abbrev pub flag_at : ℕ → Option Value
flag_at n = if nat_le n 1 then Some (flag_of n) else None

-- values, and those behind them
abbrev pub values_then : List Value → Option (List Value × List ℕ) → Option (List Value × List ℕ)
values_then done left = option_map (λ x. (done ++ x.0, x.1)) left
