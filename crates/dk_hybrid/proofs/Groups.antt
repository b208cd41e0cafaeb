-- Steps of the loops that unpack: bytes and values are digits of one number.
use Rattle.std.proofs.Common.{◌≡◌, ℕ, suc, ◌+◌, ◌-◌, ◌*◌, ◌/◌, ◌%◌, ◌^◌, ◌<◌, ◌≤◌, List, [], ◌∷◌, ◌++◌, length, take, drop, get_or, set, bit_and, sym, ap, subst, ◌∙◌, arith, lit<, Result, Ok, Err, cond}
use Rattle.std.proofs.Math.Nat.{pow-suc, mul_comm, add-mul, mul-le-mul_right, pow-le-pow_right}
use Rattle.std.proofs.lemmas.Nat.{pow_pos, and_mask, one_shl}
use Rattle.std.proofs.lemmas.List.{append_assoc, append-nil, length-drop, length-take-le, take-append-drop, drop_more, take_more_set, take_all}
use Rattle.std.specs.Prelude.{OnOk, is_ok}
use Rattle.dk_grammar.specs.Digits.{number_of, digits_of}
use Rattle.dk_grammar.proofs.Digits.{number_of-append, digits_of-sum, take-digits_of}
use Rattle.dk_grammar.proofs.Bodies.{pow-mul}

-- one more byte in front of a number
pub next_byte : (bytes : List ℕ) (i number byte : ℕ) → 0 < i → i ≤ length bytes → number ≡ number_of 256 (drop i bytes) → byte ≡ get_or bytes (i - 1) 0
    → 256 * number + byte ≡ number_of 256 (drop (i - 1) bytes)
next_byte bytes i number byte some within is read =
    let before : i - 1 + 1 ≡ i = omega arith in
    let front : drop (i - 1) bytes ≡ get_or bytes (i - 1) 0 ∷ drop (i - 1 + 1) bytes = drop_more bytes (i - 1) 0 (omega arith) in
    let value : number_of 256 (drop (i - 1) bytes) ≡ get_or bytes (i - 1) 0 + 256 * number_of 256 (drop i bytes) =
    ap (number_of 256) front ∙ ap (λ k. get_or bytes (i - 1) 0 + 256 * number_of 256 (drop k bytes)) before in
    omega (arith, value, is, read)

pub next_small : (len i number byte : ℕ) → 0 < i → i ≤ len → number < 256 ^ (len - i) → byte < 256 → 256 * number + byte < 256 ^ (len - (i - 1))
next_small len i number byte some within small fits =
    let up : len - (i - 1) ≡ suc (len - i) = omega arith in
    rw (up, pow-suc) (omega arith)

pub next_fits : (len i number byte : ℕ) → 0 < i → i ≤ len → len ≤ 8 → number < 256 ^ (len - i) → byte < 256 → 256 * number + byte < 2 ^ 64
next_fits len i number byte some within short small fits =
    let few : len - (i - 1) ≤ 8 = omega arith in
    let base : 0 < 256 = lit< tt in
    let most : 256 ^ (len - (i - 1)) ≤ 256 ^ 8 = pow-le-pow_right base few in
    omega (arith, most, next_small len i number byte some within small fits)

-- the low bits of a number, under the mask of a width
pub masked : (width n : ℕ) → width < 64 → bit_and n ((1 * 2 ^ width) % 2 ^ 64 - 1) ≡ n % 2 ^ width
masked width n small = ap (λ p. bit_and n (p - 1)) (one_shl width 64 small) ∙ and_mask n width

-- one more value in its place
pub place_value : (base i rest value : ℕ) (values all : List ℕ) → i < 8 → length values ≡ 8 → value ≡ rest % base
    → take i values ++ digits_of base (8 - i) rest ≡ all → take (i + 1) (set values i value) ++ digits_of base (8 - (i + 1)) (rest / base) ≡ all
place_value base i rest value values all within len is same =
    let left : 8 - i ≡ suc (8 - (i + 1)) = omega arith in
    let step : digits_of base (8 - i) rest ≡ rest % base ∷ digits_of base (8 - (i + 1)) (rest / base) = ap (λ k. digits_of base k rest) left in
    let cell : rest % base ∷ digits_of base (8 - (i + 1)) (rest / base) ≡ value ∷ digits_of base (8 - (i + 1)) (rest / base) = ap (λ v. v ∷ digits_of base (8 - (i + 1)) (rest / base)) (sym is) in
    ap (λ front. front ++ digits_of base (8 - (i + 1)) (rest / base)) (take_more_set values i value (omega arith))
    ∙ append_assoc (take i values) (value ∷ []) (digits_of base (8 - (i + 1)) (rest / base))
    ∙ ap (λ more. take i values ++ more) (sym (step ∙ cell))
    ∙ same

pub all_placed : (base i rest : ℕ) (values all : List ℕ) → i ≡ 8 → length values ≡ 8 → take i values ++ digits_of base (8 - i) rest ≡ all → values ≡ all
all_placed base i rest values all end len same =
    sym (append-nil values)
    ∙ ap (λ xs. xs ++ []) (sym (take_all i values (omega arith)))
    ∙ ap (λ k. take i values ++ digits_of base (8 - k) rest) (sym end)
    ∙ same

-- a group of eight has as many bytes as a value has bits
group_power : (width : ℕ) → 256 ^ width ≡ (2 ^ width) ^ 8
group_power width = pow-mul 2 8 width ∙ ap (λ k. 2 ^ k) (mul_comm 8 width) ∙ sym (pow-mul 2 width 8)

-- the values of bytes are those of the first group and those of the rest
pub group_values : (width more : ℕ) (bytes group rest : List ℕ) → width ≤ length bytes → group ≡ take width bytes → rest ≡ drop width bytes
    → number_of 256 group < 256 ^ length group
    → digits_of (2 ^ width) (8 + more) (number_of 256 bytes) ≡ digits_of (2 ^ width) 8 (number_of 256 group) ++ digits_of (2 ^ width) more (number_of 256 rest)
group_values width more bytes group rest within front behind small =
    let len : length group ≡ width = ap length front ∙ length-take-le width bytes within in
    let power : 256 ^ length group ≡ (2 ^ width) ^ 8 = ap (λ k. 256 ^ k) len ∙ group_power width in
    let whole : bytes ≡ group ++ rest = sym (take-append-drop width bytes) ∙ ap (λ xs. xs ++ drop width bytes) (sym front) ∙ ap (λ xs. group ++ xs) (sym behind) in
    let number : number_of 256 bytes ≡ number_of 256 group + (2 ^ width) ^ 8 * number_of 256 rest =
    ap (number_of 256) whole ∙ number_of-append 256 group rest ∙ ap (λ p. number_of 256 group + p * number_of 256 rest) power in
    ap (digits_of (2 ^ width) (8 + more)) number
    ∙ digits_of-sum (2 ^ width) 8 (number_of 256 group) (number_of 256 rest) more (pow_pos width) (subst (λ p. number_of 256 group < p) power small)

-- bytes for one group less
pub groups_left : (left width : ℕ) (bytes rest : List ℕ) → 8 ≤ left → rest ≡ drop width bytes → (left + 7) / 8 * width ≤ length bytes → (left - 8 + 7) / 8 * width ≤ length rest
groups_left left width bytes rest many behind enough =
    let one : (left + 7) / 8 ≡ (left - 8 + 7) / 8 + 1 = omega arith in
    let split : ((left - 8 + 7) / 8 + 1) * width ≡ (left - 8 + 7) / 8 * width + 1 * width = add-mul ((left - 8 + 7) / 8) 1 width in
    let len : length rest ≡ length bytes - width = ap length behind ∙ length-drop width bytes in
    let room : ((left - 8 + 7) / 8 + 1) * width ≤ length bytes = subst (λ k. k * width ≤ length bytes) one enough in
    omega (arith, split, len, room)

pub group_within : (left width : ℕ) (bytes : List ℕ) → 0 < left → (left + 7) / 8 * width ≤ length bytes → width ≤ length bytes
group_within left width bytes some enough =
    let one : 1 ≤ (left + 7) / 8 = omega arith in
    let least : 1 * width ≤ (left + 7) / 8 * width = mul-le-mul_right width one in
    omega (arith, least)

-- the values that are added for a group, and those of the rest
pub add_group : (width left : ℕ) (bytes group rest old new all : List ℕ) → 8 ≤ left → width ≤ length bytes → group ≡ take width bytes → rest ≡ drop width bytes
    → number_of 256 group < 256 ^ length group → new ≡ old ++ digits_of (2 ^ width) 8 (number_of 256 group)
    → old ++ digits_of (2 ^ width) left (number_of 256 bytes) ≡ all → new ++ digits_of (2 ^ width) (left - 8) (number_of 256 rest) ≡ all
add_group width left bytes group rest old new all many within front behind small is same =
    let count : left ≡ 8 + (left - 8) = omega arith in
    let values = ap (λ k. digits_of (2 ^ width) k (number_of 256 bytes)) count ∙ group_values width (left - 8) bytes group rest within front behind small in
    ap (λ xs. xs ++ digits_of (2 ^ width) (left - 8) (number_of 256 rest)) is
    ∙ append_assoc old (digits_of (2 ^ width) 8 (number_of 256 group)) (digits_of (2 ^ width) (left - 8) (number_of 256 rest))
    ∙ ap (λ xs. old ++ xs) (sym values) ∙ same

-- some of a group's values, from the front
pub group_part : (width left : ℕ) (bytes group rest : List ℕ) → left < 8 → width ≤ length bytes → group ≡ take width bytes → rest ≡ drop width bytes → number_of 256 group < 256 ^ length group
    → digits_of (2 ^ width) left (number_of 256 bytes) ≡ take left (digits_of (2 ^ width) 8 (number_of 256 group))
group_part width left bytes group rest few within front behind small =
    let eight : digits_of (2 ^ width) (8 + 0) (number_of 256 bytes) ≡ digits_of (2 ^ width) 8 (number_of 256 group) ++ [] = group_values width 0 bytes group rest within front behind small in
    sym (take-digits_of (2 ^ width) left (8 + 0) (number_of 256 bytes) (omega arith)) ∙ ap (take left) (eight ∙ append-nil (digits_of (2 ^ width) 8 (number_of 256 group)))

pub smaller_at : (n m most : ℕ) → n ≡ m → n < most → m < most
smaller_at n m most same small = omega arith

-- what an appending call leaves where it returns Ok
pub extended : {X E : Type 0} (result : Result X E) (new old more all : List ℕ) → new ≡ cond (is_ok result) (old ++ more) old → old ++ more ≡ all → OnOk result (new ≡ all)
extended (Ok x) new old more all items whole = items ∙ whole
extended (Err e) new old more all items whole = tt
