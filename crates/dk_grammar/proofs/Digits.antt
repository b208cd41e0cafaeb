-- Laws of numbers in a base: digits and number determine one another.
use Rattle.std.proofs.Common.{◌≡◌, ℕ, zero, suc, ◌+◌, ◌*◌, ◌/◌, ◌%◌, ◌^◌, ◌<◌, ◌≤◌, List, [], ◌∷◌, ◌++◌, length, take, replicate, refl, sym, ap, subst, ◌∙◌, arith}
use Rattle.std.proofs.Math.Nat.{mod-lt, div-add-mod, add-mul-div_left, add-mul-mod_self_left, div-eq_of_lt, mod-eq_of_lt, pow-suc, pow-succ', mul_assoc, mul-add, mod-one, mul-le-mul_left, pow-zero, suc-add, zero-add, one-mul}
use Rattle.std.proofs.lemmas.Nat.{div_below}
use Rattle.std.specs.List.{All, AllByRecursion}
use Rattle.std.proofs.lemmas.List.Elements.{All-from_recursion, recursion_from_All}
use Rattle.dk_grammar.specs.Digits.{number_of, digits_of}

abbrev AreBelow : ℕ → List ℕ → Type 0
AreBelow base digits = AllByRecursion (λ digit. digit < base) digits

pub length-digits_of : (base count n : ℕ) → length (digits_of base count n) ≡ count
length-digits_of base zero n = refl
length-digits_of base (suc count) n = ap suc (length-digits_of base count (n / base))

below : (base count n : ℕ) → 0 < base → AreBelow base (digits_of base count n)
below base zero n some = tt
below base (suc count) n some = (mod-lt n some, below base count (n / base) some)

pub digits_of-below : (base count n : ℕ) → 0 < base → All (λ digit. digit < base) (digits_of base count n)
digits_of-below base count n some = All-from_recursion (λ digit. digit < base) (digits_of base count n) (below base count n some)

-- the next digit, and the number above it
pub low_digit : (base digit n : ℕ) → digit < base → (digit + base * n) % base ≡ digit
low_digit base digit n h = add-mul-mod_self_left digit base n ∙ mod-eq_of_lt h

pub above_digit : (base digit n : ℕ) → digit < base → (digit + base * n) / base ≡ n
above_digit base digit n h =
    let some : 0 < base = omega arith in
    let none : digit / base ≡ 0 = div-eq_of_lt h in
    add-mul-div_left digit n some ∙ omega (arith, none)

known : (base : ℕ) (digits : List ℕ) → AreBelow base digits → digits_of base (length digits) (number_of base digits) ≡ digits
known base [] small = refl
known base (digit ∷ digits) small =
    rw (low_digit base digit (number_of base digits) small.0, above_digit base digit (number_of base digits) small.0)
    (ap (λ ds. digit ∷ ds) (known base digits small.1))

-- digits are those of their number
pub digits_of-number_of : (base : ℕ) (digits : List ℕ) → All (λ digit. digit < base) digits → digits_of base (length digits) (number_of base digits) ≡ digits
digits_of-number_of base digits small = known base digits (recursion_from_All (λ digit. digit < base) digits small)

-- so many digits of one number are the same
pub same_digits : (base : ℕ) (xs ys : List ℕ) → All (λ digit. digit < base) xs → All (λ digit. digit < base) ys
    → length xs ≡ length ys → number_of base xs ≡ number_of base ys → xs ≡ ys
same_digits base xs ys small_xs small_ys len number =
    sym (digits_of-number_of base xs small_xs)
    ∙ ap (λ n. digits_of base n (number_of base xs)) len
    ∙ ap (digits_of base (length ys)) number
    ∙ digits_of-number_of base ys small_ys

low_below : (base count n : ℕ) → 0 < base → n < base ^ suc count → n / base < base ^ count
low_below base count n some h = div_below n base (base ^ count) some (subst (λ p. n < p) (pow-suc base count) h)

-- a number that has so many digits is the number of its digits
pub number_of-digits_of : (base count n : ℕ) → 0 < base → n < base ^ count → number_of base (digits_of base count n) ≡ n
number_of-digits_of base zero n some h = omega (arith, pow-zero base)
number_of-digits_of base (suc count) n some h =
    let high = number_of-digits_of base count (n / base) some (low_below base count n some h) in
    rw high (omega (arith, div-add-mod n base))

below_power : (base : ℕ) (digits : List ℕ) → AreBelow base digits → number_of base digits < base ^ length digits
below_power base [] small = omega (arith, pow-zero base)
below_power base (digit ∷ digits) small =
    let high : number_of base digits < base ^ length digits = below_power base digits small.1 in
    let next : number_of base digits + 1 ≤ base ^ length digits = omega (arith, high) in
    let up : base * (number_of base digits + 1) ≤ base * base ^ length digits = mul-le-mul_left base next in
    rw pow-succ' (omega (arith, small.0, mul-add base (number_of base digits) 1))

pub number_of-below : (base : ℕ) (digits : List ℕ) → All (λ digit. digit < base) digits → number_of base digits < base ^ length digits
number_of-below base digits small = below_power base digits (recursion_from_All (λ digit. digit < base) digits small)

pub number_of-append : (base : ℕ) (xs ys : List ℕ) → number_of base (xs ++ ys) ≡ number_of base xs + base ^ length xs * number_of base ys
number_of-append base [] ys = rw (pow-zero, one-mul) (omega arith)
number_of-append base (x ∷ xs) ys =
    rw (number_of-append base xs ys, pow-succ', mul-add, mul_assoc) (omega arith)

-- digits of a number whose lower part is known
pub digits_of-sum : (base count low high : ℕ) (more : ℕ) → 0 < base → low < base ^ count
    → digits_of base (count + more) (low + base ^ count * high) ≡ digits_of base count low ++ digits_of base more high
digits_of-sum base zero low high more some h =
    let none : low ≡ 0 = omega (arith, pow-zero base) in
    rw (none, pow-zero, one-mul, zero-add, zero-add) refl
digits_of-sum base (suc count) low high more some h =
    let up : base ^ suc count * high ≡ base * (base ^ count * high) = ap (λ p. p * high) (pow-succ' base count) ∙ mul_assoc base (base ^ count) high in
    let digit : (low + base * (base ^ count * high)) % base ≡ low % base = add-mul-mod_self_left low base (base ^ count * high) in
    let rest : (low + base * (base ^ count * high)) / base ≡ low / base + base ^ count * high = add-mul-div_left low (base ^ count * high) some in
    rw (suc-add, up, digit, rest, digits_of-sum base count (low / base) high more some (low_below base count low some h)) refl

pub take-digits_of : (base few many n : ℕ) → few ≤ many → take few (digits_of base many n) ≡ digits_of base few n
take-digits_of base zero many n h = refl
take-digits_of base (suc few) zero n h = absurd (omega arith)
take-digits_of base (suc few) (suc many) n h = ap (λ ds. n % base ∷ ds) (take-digits_of base few many (n / base) (omega arith))

-- in base 1 there is only 0
pub digits_of-one : (count n : ℕ) → n ≡ 0 → digits_of 1 count n ≡ replicate count 0
digits_of-one zero n h = refl
digits_of-one (suc count) n h = rw (h, mod-one) (ap (λ ds. 0 ∷ ds) (digits_of-one count 0 refl))
