-- How many bytes numbers, names and the headers of lists have.
use Rattle.std.proofs.Common.{◌≡◌, ℕ, zero, suc, ◌+◌, ◌*◌, ◌/◌, ◌%◌, ◌^◌, ◌<◌, ◌≤◌, Bool, true, false, cond, nat_lt, pos, List, [], ◌∷◌, length, refl, subst, arith}
use Rattle.std.proofs.Math.Nat.{pow-suc}
use Rattle.std.proofs.lemmas.List.{length-append}
use Rattle.std.proofs.lemmas.Nat.{div_below}
use Rattle.std.proofs.lemmas.Bool.{ltb-false}
use Rattle.dk_grammar.specs.Varint.{groups, varint_bytes}
use Rattle.dk_grammar.specs.Spelling.{whole_bytes, binary_bytes, list_bytes}
use Rattle.dk_pqwrite.specs.FooterSizes.{name_size}

-- ---- groups of seven bits

high_short : (k most n : ℕ) → 128 ≤ n → ((j : ℕ) → n / 128 < 128 ^ suc j → length (groups most (n / 128)) ≤ suc j) → n < 128 ^ suc k
    → suc (length (groups most (n / 128))) ≤ suc k
high_short zero most n large again small = absurd (omega arith)
high_short (suc k) most n large again small =
    let less : n / 128 < 128 ^ suc k = div_below n 128 (128 ^ suc k) (omega arith) (subst (λ p. n < p) (pow-suc 128 (suc k)) small) in
    omega (arith, again k less)

first_short : (b : Bool) (k most n : ℕ) → nat_lt n 128 ≡ b → ((j : ℕ) → n / 128 < 128 ^ suc j → length (groups most (n / 128)) ≤ suc j) → n < 128 ^ suc k
    → length (cond b (n ∷ []) ((128 + n % 128) ∷ groups most (n / 128))) ≤ suc k
first_short true k most n e again small = omega arith
first_short false k most n e again small = high_short k most n (ltb-false n 128 e) again small

-- a number below a power of 128 has no more groups than the power says
groups_short : (k most n : ℕ) → n < 128 ^ suc k → length (groups most n) ≤ suc k
unfolding groups
groups_short k zero n small = omega arith
groups_short k (suc most) n small = first_short (nat_lt n 128) k most n refl (λ j. groups_short j most (n / 128)) small

high_few : (most n : ℕ) → 128 ≤ n → length (groups most (n / 128)) ≤ 1 + n / 128 / 64 → suc (length (groups most (n / 128))) ≤ 1 + n / 64
high_few most n large again = omega (arith, again)

first_few : (b : Bool) (most n : ℕ) → nat_lt n 128 ≡ b → length (groups most (n / 128)) ≤ 1 + n / 128 / 64 → length (cond b (n ∷ []) ((128 + n % 128) ∷ groups most (n / 128))) ≤ 1 + n / 64
first_few true most n e again = omega arith
first_few false most n e again = high_few most n (ltb-false n 128 e) again

-- and behind the first no more than one for each 64
groups_few : (most n : ℕ) → length (groups most n) ≤ 1 + n / 64
unfolding groups
groups_few zero n = omega arith
groups_few (suc most) n = first_few (nat_lt n 128) most n refl (groups_few most (n / 128))

-- ---- whole numbers

pub whole_8 : (n : ℕ) → n < 2 ^ 8 → length (whole_bytes (pos n)) ≤ 2
whole_8 n small = groups_short 1 (2 * n) (2 * n) (omega arith)

pub whole_32 : (n : ℕ) → n < 2 ^ 32 → length (whole_bytes (pos n)) ≤ 5
whole_32 n small = groups_short 4 (2 * n) (2 * n) (omega arith)

pub whole_64 : (n : ℕ) → n < 2 ^ 63 → length (whole_bytes (pos n)) ≤ 10
whole_64 n small = groups_short 9 (2 * n) (2 * n) (omega arith)

-- ---- names and lists

pub name_short : (name : List ℕ) → length name < 2 ^ 64 → length (binary_bytes name) ≤ name_size name
name_short name small =
    omega (
      arith,
      length-append (varint_bytes (length name)) name,
      groups_few (length name) (length name),
      groups_short 9 (length name) (length name) (omega arith),
    )

pub list_short : (count kind : ℕ) → count < 2 ^ 32 → length (list_bytes count kind) ≤ 6
list_short count kind small = by (nat_lt count 15) (groups_short 4 count count (omega arith))
  where
    by : (b : Bool) → length (groups count count) ≤ 5 → length (cond b ((16 * count + kind) ∷ []) ((240 + kind) ∷ groups count count)) ≤ 6
    by true h = omega arith
    by false h = omega (arith, h)
