-- What a number with zeros in front up to a width is printed as: its digits of that count.
use Rattle.std.proofs.Common.{◌≡◌, ℕ, zero, suc, ◌+◌, ◌-◌, ◌*◌, ◌/◌, ◌%◌, ◌^◌, ◌<◌, List, [], ◌∷◌, ◌++◌, length, replicate, refl, ap, sym, ◌∙◌, arith, add-one, false, inl, inr}
use Rattle.std.specs.Fmt.{decimal, styled_decimal, padded_integral, format_spec, char_count}
use Rattle.std.proofs.Math.Nat.{pow-succ'}
use Rattle.std.proofs.lemmas.Fmt.{decimal_digit, decimal_step}
use Rattle.std.proofs.lemmas.List.{append-nil, append_assoc, length_push, replicate_more}
use Rattle.std.proofs.lemmas.Bool.{cases_lt}
use Rattle.dk_paths.specs.Numbers.{digits}

more : (count : ℕ) → count + 1 ≡ suc count
more count = add-one count

zeros : (count : ℕ) → digits count 0 ≡ replicate count 48
unfolding digits
zeros zero = refl
zeros (suc count) = ap (λ (front : List ℕ). front ++ 48 ∷ []) (zeros count) ∙ replicate_more count 48 ∙ ap (λ n. replicate n 48) (more count)

filled_small : (count number : ℕ) → number < 10 → digits (suc count) number ≡ replicate (suc count - length (decimal number)) 48 ++ decimal number
unfolding digits
filled_small count number small =
    let none : number / 10 ≡ 0 = omega arith in
    let last : number % 10 ≡ number = omega arith in
    let left : suc count - 1 ≡ count = omega arith in
    rw (none, last, zeros count, decimal_digit number small, left) refl

filled_by : (count number : ℕ)
    → ((less : ℕ) → 0 < less → less < 10 ^ count → less < 2 ^ 64 → digits count less ≡ replicate (count - length (decimal less)) 48 ++ decimal less)
    → number < 10 ^ suc count → number < 2 ^ 64 → digits (suc count) number ≡ replicate (suc count - length (decimal number)) 48 ++ decimal number
unfolding digits
filled_by count number front small fits =
    elim (cases_lt number 10) [
      | inl one ↦ filled_small count number one
      | inr more ↦
          (let scaled : number < 10 * 10 ^ count = rw pow-succ' at small in
          let less : number / 10 < 10 ^ count = omega arith in
          let less_fits : number / 10 < 2 ^ 64 = omega arith in
          let some : 0 < number / 10 = omega arith in
          let step = decimal_step number more fits in
          let long : length (decimal number) ≡ length (decimal (number / 10)) + 1 = ap length step ∙ length_push (decimal (number / 10)) (48 + number % 10) in
          let same : suc count - length (decimal number) ≡ count - length (decimal (number / 10)) = omega (arith, long) in
          ap (λ (front : List ℕ). front ++ (48 + number % 10) ∷ []) (front (number / 10) some less less_fits)
          ∙ append_assoc (replicate (count - length (decimal (number / 10))) 48) (decimal (number / 10)) ((48 + number % 10) ∷ [])
          ∙ ap (λ (rest : List ℕ). replicate (count - length (decimal (number / 10))) 48 ++ rest) (sym step)
          ∙ ap (λ n. replicate n 48 ++ decimal number) (sym same))
    ]

filled : (count number : ℕ) → 0 < number → number < 10 ^ count → number < 2 ^ 64
    → digits count number ≡ replicate (count - length (decimal number)) 48 ++ decimal number
filled zero number some small fits = absurd (omega arith)
filled (suc count) number some small fits = filled_by count number (filled count) small fits

pub padded-digits : (count number : ℕ) → number < 10 ^ suc count → number < 2 ^ 64
    → padded_integral (format_spec 32 0 4 (suc count) (2 ^ 64 - 1)) false [] (decimal number) ≡ digits (suc count) number
unfolding padded_integral char_count
padded-digits count number small fits =
    let full = filled_by count number (filled count) small fits in
    let bare : decimal number ++ [] ≡ decimal number = append-nil (decimal number) in
    let left : suc count - length (decimal number) - 0 - 0 ≡ suc count - length (decimal number) = omega arith in
    rw (bare, left) (sym full)

-- a version of 64 bits and a part number of 32, as they are printed
pub shown_version : (number : ℕ) → number < 2 ^ 64 → styled_decimal (format_spec 32 0 4 20 (2 ^ 64 - 1)) number ≡ digits 20 number
shown_version number fits = padded-digits 19 number (omega arith) fits

pub shown_part : (number : ℕ) → number < 2 ^ 32 → styled_decimal (format_spec 32 0 4 10 (2 ^ 64 - 1)) number ≡ digits 10 number
shown_part number fits = padded-digits 9 number (omega arith) (omega arith)
