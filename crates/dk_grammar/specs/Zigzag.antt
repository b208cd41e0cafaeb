-- Signed numbers as natural ones, the small ones first whatever their sign: 0, -1, 1, -2, 2 and so on are 0, 1, 2, 3, 4.
use Rattle.std.specs.Prelude.{ℕ, ◌+◌, ◌*◌, ◌/◌, ◌%◌, ◌==◌, if◌then◌else◌, ℤ, pos, negsuc}

-- the number that n stands for
abbrev pub zigzag_of : ℕ → ℤ
zigzag_of n = if n % 2 == 0 then pos (n / 2) else negsuc (n / 2)

-- the number that stands for z
abbrev pub zigzag : ℤ → ℕ
zigzag (pos n) = 2 * n
zigzag (negsuc n) = 2 * n + 1
