-- Numbers in a base, the lowest digit first. Bytes are the digits of a number in base 256, least byte first.
use Rattle.std.specs.Prelude.{ℕ, zero, suc, ◌+◌, ◌*◌, ◌/◌, ◌%◌, List, [], ◌∷◌}

-- the number that has these digits
abbrev pub number_of : ℕ → List ℕ → ℕ
number_of base [] = 0
number_of base (digit ∷ digits) = digit + base * number_of base digits

-- so many of a number's digits, from the lowest on
abbrev pub digits_of : ℕ → ℕ → ℕ → List ℕ
digits_of base zero n = []
digits_of base (suc count) n = n % base ∷ digits_of base count (n / base)
