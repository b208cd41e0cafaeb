-- Numbers of any size in groups of seven bits, the lowest first (ULEB128). A byte below 128 is the last group; one from 128 on
-- has 128 above its group, and more groups follow it.
use Rattle.std.specs.Prelude.{◌≡◌, ℕ, zero, suc, ◌+◌, ◌-◌, ◌*◌, ◌/◌, ◌%◌, ◌<◌, ◌≤◌, nat_lt, if◌then◌else◌, Option, Some, None, List, [], ◌∷◌}

-- the bytes are a spelling of the number
abbrev pub IsVarint : List ℕ → ℕ → Type 0
IsVarint [] n = ⊥
IsVarint (b ∷ []) n = (b < 128) × (n ≡ b)
IsVarint (b ∷ c ∷ bs) n = (128 ≤ b) × ((high : ℕ) × (n + 128 ≡ b + 128 * high) × IsVarint (c ∷ bs) high)

-- a number whose lowest group is known, from the number above it
abbrev pub with_lowest_group : ℕ → Option (ℕ × List ℕ) → Option (ℕ × List ℕ)
with_lowest_group low None = None
with_lowest_group low (Some high) = Some (low + 128 * high.0, high.1)

-- the number that the bytes begin with, and the bytes behind it; none where the bytes end before its last group
abbrev pub varint_at : List ℕ → Option (ℕ × List ℕ)
varint_at [] = None
varint_at (b ∷ bs) = if nat_lt b 128 then Some (b, bs) else with_lowest_group (b - 128) (varint_at bs)

-- the shortest spelling, the one that is written; a number has at most as many groups as its own size
unfoldable pub groups : ℕ → ℕ → List ℕ
groups zero n = n ∷ []
groups (suc most) n = if nat_lt n 128 then n ∷ [] else (128 + n % 128) ∷ groups most (n / 128)

abbrev pub varint_bytes : ℕ → List ℕ
varint_bytes n = groups n n
