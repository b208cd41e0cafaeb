-- Decimal digits of a fixed count: how many there are, that each is a digit, and that they say their number.
use Rattle.std.proofs.Common.{◌≡◌, ℕ, zero, suc, ◌+◌, ◌-◌, ◌*◌, ◌/◌, ◌%◌, ◌^◌, ◌<◌, ◌≤◌, List, [], ◌∷◌, ◌++◌, length, get_or, take, drop, map, true, false, refl, ap, sym, subst, ◌∙◌, arith, add-one, inl, inr}
use Rattle.std.specs.Char.{digit_value, is_ascii_digit}
use Rattle.std.specs.Str.Parse.{digits_value}
use Rattle.std.specs.Int.Digits.{number_from_digits}
use Rattle.std.proofs.Math.Nat.{pow-succ'}
use Rattle.std.proofs.lemmas.Bool.Decides.{nat_tests}
use Rattle.std.proofs.lemmas.List.{length_push, length-append, take_at, drop_at, get_or_push, take_all, take_more, take-append-drop, map-append, get_or_append_left}
use Rattle.std.proofs.lemmas.Bool.{cases_lt}
use Rattle.std.proofs.lemmas.Int.Digits.{digits_value_push, digits_value_is, digits_value_more, number_after_append, number_after_ge}
use Rattle.dk_paths.specs.Numbers.{digits}

pub length-digits : (count number : ℕ) → length (digits count number) ≡ count
unfolding digits
length-digits zero number = refl
length-digits (suc count) number = omega (arith, length_push (digits count (number / 10)) (48 + number % 10), length-digits count (number / 10))

pub record IsDigit (byte : ℕ) : Type 0 where
  pub least : 48 ≤ byte
  pub most : byte ≤ 57

pub digit_of : (byte : ℕ) → IsDigit byte → digit_value byte ≡ byte - 48
digit_of byte is = grind (arith, nat_tests)

pub last_is_digit : (number : ℕ) → IsDigit (48 + number % 10)
last_is_digit number = record { least = omega arith; most = omega arith }

-- each byte of digits is a digit
digit_at : (front : List ℕ) (byte i count : ℕ) → length front ≡ count → ((k : ℕ) → k < count → IsDigit (get_or front k 0))
    → IsDigit byte → i < suc count → IsDigit (get_or (front ++ byte ∷ []) i 0)
digit_at front byte i count long before last within =
    elim (cases_lt i count) [
      | inl earlier ↦ (let inside : i < length front = omega arith in rw get_or_append_left (before i earlier))
      | inr at ↦ (let here : length front ≡ i = omega arith in rw (get_or_push front byte 0 i here) last)
    ]

pub digits-are : (count number i : ℕ) → i < count → IsDigit (get_or (digits count number) i 0)
unfolding digits
digits-are zero number i within = absurd (omega arith)
digits-are (suc count) number i within = digit_at (digits count (number / 10)) (48 + number % 10) i count (length-digits count (number / 10))
    (digits-are count (number / 10)) (last_is_digit number) within

-- one more digit
pub digits-push : (count number byte : ℕ) → IsDigit byte → digits (count + 1) (number * 10 + (byte - 48)) ≡ digits count number ++ byte ∷ []
unfolding digits
digits-push count number byte is =
    let front : (number * 10 + (byte - 48)) / 10 ≡ number = omega arith in
    let last : 48 + (number * 10 + (byte - 48)) % 10 ≡ byte = omega arith in
    rw add-one (rw (front, last) refl)

-- the digits of a number say the number
pub value-digits : (count number : ℕ) → number < 10 ^ count → digits_value 10 (digits count number) ≡ number
unfolding digits
value-digits zero number small = omega arith
value-digits (suc count) number small =
    let scaled : number < 10 * 10 ^ count = rw pow-succ' at small in
    let rest : number / 10 < 10 ^ count = omega arith in
    let last : digit_value (48 + number % 10) ≡ number % 10 = digit_of _ (last_is_digit number) ∙ omega arith in
    digits_value_push 10 (digits count (number / 10)) (48 + number % 10) ∙ rw (value-digits count (number / 10) rest, last) (omega arith)

-- what is read of digits never falls
value-append-≤ : (front rest : List ℕ) → digits_value 10 front ≤ digits_value 10 (front ++ rest)
value-append-≤ front rest =
    let whole = digits_value_is 10 (front ++ rest) in
    let part = digits_value_is 10 front in
    let split = ap (number_from_digits 10) (map-append digit_value front rest) ∙ number_after_append 10 0 (map digit_value front) (map digit_value rest) in
    let grows = number_after_ge 10 (number_from_digits 10 (map digit_value front)) (map digit_value rest) (omega arith) in
    omega (arith, whole, part, split, grows)

pub value-take-≤ : (text : List ℕ) (i : ℕ) → digits_value 10 (take i text) ≤ digits_value 10 text
value-take-≤ text i =
    let P : List ℕ → Type 0 = λ whole. digits_value 10 (take i text) ≤ digits_value 10 whole in
    subst P (take-append-drop i text) (value-append-≤ (take i text) (drop i text))

pub is_digit : (byte : ℕ) → is_ascii_digit byte ≡ true → IsDigit byte
is_digit byte test = record { least = grind (arith, nat_tests); most = grind (arith, nat_tests) }

pub no_digit : (byte : ℕ) → is_ascii_digit byte ≡ false → IsDigit byte → ⊥
no_digit byte test is =
    let least : 48 ≤ byte = is.least in
    let most : byte ≤ 57 = is.most in
    grind (arith, nat_tests)

-- a text with a byte that is no digit is no number
pub not_all_digits : (text : List ℕ) (i number : ℕ) → i < length text → is_ascii_digit (get_or text i 0) ≡ false
    → digits (length text) number ≡ text → ⊥
not_all_digits text i number within test spelled =
    let P : List ℕ → Type 0 = λ whole. IsDigit (get_or whole i 0) in
    no_digit (get_or text i 0) test (subst P spelled (digits-are (length text) number i within))

-- what the digits of a text say, where they are those of a number
pub value_of_text : (text : List ℕ) (number limit : ℕ) → number ≤ limit → limit < 10 ^ length text → digits (length text) number ≡ text
    → digits_value 10 text ≡ number
value_of_text text number limit small fits spelled =
    let P : List ℕ → Type 0 = λ whole. digits_value 10 whole ≡ number in
    let below : number < 10 ^ length text = omega arith in
    subst P spelled (value-digits (length text) number below)

-- a text whose front is too large with one more digit is too large
pub too_large : (text : List ℕ) (i value number limit : ℕ) → number ≤ limit → limit < 10 ^ length text → digits (length text) number ≡ text
    → i < length text → value ≡ digits_value 10 (take i text) → limit / 10 < value → ⊥
too_large text i value number limit small fits spelled within reads large =
    let more = digits_value_more 10 text i within in
    let never = value-take-≤ text (i + 1) in
    let whole = value_of_text text number limit small fits spelled in
    omega (arith, more, never, whole)

pub too_large_whole : (text : List ℕ) (i value number limit : ℕ) → number ≤ limit → limit < 10 ^ length text → digits (length text) number ≡ text
    → i ≡ length text → value ≡ digits_value 10 (take i text) → limit < value → ⊥
too_large_whole text i value number limit small fits spelled at reads large =
    let all : take i text ≡ text = take_all i text (omega arith) in
    let whole = value_of_text text number limit small fits spelled in
    let same : value ≡ digits_value 10 text = reads ∙ ap (digits_value 10) all in
    omega (arith, whole, same)

-- no digits spell nothing
pub digits-zero : (number : ℕ) → digits 0 number ≡ []
unfolding digits
digits-zero number = refl

-- one more digit of a text
pub spelled_more : (text : List ℕ) (i value : ℕ) → i < length text → is_ascii_digit (get_or text i 0) ≡ true → digits i value ≡ take i text
    → digits (i + 1) (value * 10 + (get_or text i 0 - 48)) ≡ take (i + 1) text
spelled_more text i value within test spelled =
    digits-push i value (get_or text i 0) (is_digit _ test) ∙ ap (λ (front : List ℕ). front ++ get_or text i 0 ∷ []) spelled ∙ sym (take_more text i 0 within)

pub value_more : (text : List ℕ) (i value : ℕ) → i < length text → is_ascii_digit (get_or text i 0) ≡ true → value ≡ digits_value 10 (take i text)
    → value * 10 + (get_or text i 0 - 48) ≡ digits_value 10 (take (i + 1) text)
value_more text i value within test reads =
    let more = digits_value_more 10 text i within in
    let last = digit_of (get_or text i 0) (is_digit _ test) in
    omega (arith, more, last, reads)

-- digits in front of a text, and what follows them
pub take-digits : (count number : ℕ) (rest : List ℕ) → take count (digits count number ++ rest) ≡ digits count number
take-digits count number rest = take_at (digits count number) rest count (length-digits count number)

pub drop-digits : (count number : ℕ) (rest : List ℕ) → drop count (digits count number ++ rest) ≡ rest
drop-digits count number rest = drop_at (digits count number) rest count (length-digits count number)

-- a text that is too short begins with no number
pub too_short : (text : List ℕ) (count number : ℕ) (rest : List ℕ) → length text < count → digits count number ++ rest ≡ text → ⊥
too_short text count number rest short spelled =
    let whole = ap length spelled in
    omega (arith, whole, length-append (digits count number) rest, length-digits count number)

pub front_is_digits : (text front rest : List ℕ) (count number : ℕ) → front ≡ take count text → digits count number ++ rest ≡ text → digits count number ≡ front
front_is_digits text front rest count number is spelled = sym (take-digits count number rest) ∙ ap (take count) spelled ∙ sym is
