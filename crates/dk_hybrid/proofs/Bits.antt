-- Steps of the loop that unpacks values bit by bit: the bits ahead and the bytes behind them are one number.
use Rattle.std.proofs.Common.{◌≡◌, ℕ, suc, ◌+◌, ◌-◌, ◌*◌, ◌/◌, ◌%◌, ◌^◌, ◌<◌, ◌≤◌, List, [], ◌∷◌, ◌++◌, length, drop, get_or, sym, ap, subst, ◌∙◌, arith}
use Rattle.std.proofs.Math.Nat.{mul_comm, mul_assoc, mul-add, add-mul, add-mul-div_left, add-mul-mod_self_left, mul-le-mul_right}
use Rattle.std.proofs.lemmas.Nat.{pow_pos, pow-add, shl_whole, shr_below}
use Rattle.std.proofs.lemmas.List.{append_assoc, drop_more}
use Rattle.dk_grammar.specs.Digits.{number_of, digits_of}

digit_ahead : (digit bits size : ℕ) → digit < 2 ^ size → bits + size ≤ 64 → digit * 2 ^ bits % 2 ^ 64 ≡ digit * 2 ^ bits
digit_ahead digit bits size small room = shl_whole digit size bits 64 small (omega arith)

-- a digit more ahead is still below its power
pub more_low : (ahead digit bits size : ℕ) → ahead < 2 ^ bits → digit < 2 ^ size → bits + size ≤ 64 → ahead + digit * 2 ^ bits % 2 ^ 64 < 2 ^ (bits + size)
more_low ahead digit bits size low small room =
    let next : digit + 1 ≤ 2 ^ size = omega (arith, small) in
    let part : (digit + 1) * 2 ^ bits ≤ 2 ^ size * 2 ^ bits = mul-le-mul_right (2 ^ bits) next in
    let split : (digit + 1) * 2 ^ bits ≡ digit * 2 ^ bits + 1 * 2 ^ bits = add-mul digit 1 (2 ^ bits) in
    omega (arith, digit_ahead digit bits size small room, pow-add 2 bits size, part, split, mul_comm (2 ^ size) (2 ^ bits))

-- a digit more ahead, and a number less its lowest digit, are the same
pub more_same : (ahead digit bits size high number : ℕ) → digit < 2 ^ size → bits + size ≤ 64 → number ≡ digit + 2 ^ size * high
    → (ahead + digit * 2 ^ bits % 2 ^ 64) + 2 ^ (bits + size) * high ≡ ahead + 2 ^ bits * number
more_same ahead digit bits size high number small room is =
    let power : 2 ^ (bits + size) * high ≡ 2 ^ bits * (2 ^ size * high) = ap (λ p. p * high) (pow-add 2 bits size) ∙ mul_assoc (2 ^ bits) (2 ^ size) high in
    let product : 2 ^ bits * number ≡ 2 ^ bits * digit + 2 ^ bits * (2 ^ size * high) = ap (λ n. 2 ^ bits * n) is ∙ mul-add (2 ^ bits) digit (2 ^ size * high) in
    omega (arith, power, product, digit_ahead digit bits size small room, mul_comm digit (2 ^ bits))

pub next_number : (bytes : List ℕ) (next : ℕ) → next < length bytes → number_of 256 (drop next bytes) ≡ get_or bytes next 0 + 256 * number_of 256 (drop (next + 1) bytes)
next_number bytes next within = ap (number_of 256) (drop_more bytes next 0 within)

-- a value is taken from the bits ahead
taken : (width bits ahead high : ℕ) → width ≤ bits → (ahead + 2 ^ bits * high ≡ ahead + 2 ^ width * (2 ^ (bits - width) * high))
taken width bits ahead high enough =
    let sum : bits ≡ width + (bits - width) = omega arith in
    ap (λ n. ahead + n) (ap (λ k. 2 ^ k * high) sum ∙ ap (λ p. p * high) (pow-add 2 width (bits - width)) ∙ mul_assoc (2 ^ width) (2 ^ (bits - width)) high)

pub value_taken : (width bits left ahead high value : ℕ) (old new all : List ℕ) → width ≤ bits → 0 < left → value ≡ ahead % 2 ^ width → new ≡ old ++ value ∷ []
    → old ++ digits_of (2 ^ width) left (ahead + 2 ^ bits * high) ≡ all
    → new ++ digits_of (2 ^ width) (left - 1) (ahead / 2 ^ width + 2 ^ (bits - width) * high) ≡ all
value_taken width bits left ahead high value old new all enough some is added same =
    let base = 2 ^ width in
    let rest : ℕ = 2 ^ (bits - width) * high in
    let count : left ≡ suc (left - 1) = omega arith in
    let low : (ahead + base * rest) % base ≡ value = add-mul-mod_self_left ahead base rest ∙ sym is in
    let above : (ahead + base * rest) / base ≡ ahead / base + rest = add-mul-div_left ahead rest (pow_pos width) in
    let step : digits_of base left (ahead + 2 ^ bits * high) ≡ value ∷ digits_of base (left - 1) (ahead / base + rest) =
    ap (digits_of base left) (taken width bits ahead high enough)
    ∙ ap (λ k. digits_of base k (ahead + base * rest)) count
    ∙ ap (λ v. v ∷ digits_of base (left - 1) ((ahead + base * rest) / base)) low
    ∙ ap (λ n. value ∷ digits_of base (left - 1) n) above in
    ap (λ xs. xs ++ digits_of base (left - 1) (ahead / base + rest)) added
    ∙ append_assoc old (value ∷ []) (digits_of base (left - 1) (ahead / base + rest))
    ∙ ap (λ xs. old ++ xs) (sym step) ∙ same

pub bits_low : (width bits ahead : ℕ) → width ≤ bits → ahead < 2 ^ bits → ahead / 2 ^ width < 2 ^ (bits - width)
bits_low width bits ahead enough low =
    let sum : bits ≡ bits - width + width = omega arith in
    shr_below ahead (bits - width) width (subst (λ k. ahead < 2 ^ k) sum low)

-- so many bits are there for the values that are left
pub bits_left : (left width bits next len : ℕ) → 0 < left → left * width + 8 * next ≤ bits + 8 * len → width ≤ bits → (left - 1) * width + 8 * next ≤ bits - width + 8 * len
bits_left left width bits next len some enough whole =
    let one : left ≡ left - 1 + 1 = omega arith in
    let split : left * width ≡ (left - 1) * width + 1 * width = ap (λ n. n * width) one ∙ add-mul (left - 1) 1 width in
    omega (arith, split)

pub byte_there : (left width bits next len : ℕ) → 0 < left → left * width + 8 * next ≤ bits + 8 * len → bits < width → next < len
byte_there left width bits next len some enough few =
    let least : 1 * width ≤ left * width = mul-le-mul_right width some in
    omega (arith, least)

pub first_bits : (count width len : ℕ) → (count + 7) / 8 * width ≤ len → count * width ≤ 8 * len
first_bits count width len enough =
    let groups : ℕ = (count + 7) / 8 in
    let most : count * width ≤ 8 * groups * width = mul-le-mul_right width (omega arith) in
    omega (arith, most, mul_assoc 8 groups width)
