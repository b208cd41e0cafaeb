-- The number of a varint's bytes, the lowest group first.
use Rattle.std.specs.Prelude.{ℕ, ◌+◌, ◌-◌, ◌*◌, ◌^◌, nat_lt, if◌then◌else◌, Option, Some, None, List, [], ◌∷◌}

abbrev pub group_bits : ℕ → ℕ
group_bits b = if nat_lt b 128 then b else b - 128

abbrev pub groups_value : List ℕ → ℕ
groups_value [] = 0
groups_value (b ∷ bs) = group_bits b + 128 * groups_value bs

abbrev pub in_64_bits : ℕ → Option ℕ
in_64_bits n = if nat_lt n (2 ^ 64) then Some n else None
