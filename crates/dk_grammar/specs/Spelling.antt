-- The spellings of Thrift's compact protocol that are written: the short forms wherever they fit.
use Rattle.std.specs.Prelude.{ℕ, ◌+◌, ◌*◌, ◌==◌, nat_lt, nat_le, if◌then◌else◌, ℤ, pos, negsuc, ◌-ℤ◌, List, [], ◌∷◌, ◌++◌, length}
use Rattle.dk_grammar.specs.Varint.{varint_bytes}
use Rattle.dk_grammar.specs.Zigzag.{zigzag}

abbrev pub whole_bytes : ℤ → List ℕ
whole_bytes z = varint_bytes (zigzag z)

abbrev pub binary_bytes : List ℕ → List ℕ
binary_bytes part = varint_bytes (length part) ++ part

-- the step from one id to the next where a header has room for it, 1 to 15, else 0
abbrev pub short_step : ℤ → ℕ
short_step (pos n) = if nat_le n 15 then n else 0
short_step (negsuc n) = 0

abbrev pub field_bytes : ℤ → ℤ → ℕ → List ℕ
field_bytes last id kind = if short_step (id -ℤ last) == 0 then kind ∷ whole_bytes id else (16 * short_step (id -ℤ last) + kind) ∷ []

abbrev pub list_bytes : ℕ → ℕ → List ℕ
list_bytes count kind = if nat_lt count 15 then (16 * count + kind) ∷ [] else (240 + kind) ∷ varint_bytes count

-- the end of a struct
abbrev pub end_bytes : List ℕ
end_bytes = 0 ∷ []
