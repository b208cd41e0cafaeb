-- A word that is no number of 64 bits is no version.
use Rattle.std.proofs.Common.{◌≡◌, ℕ, ◌<◌, ◌^◌, ◌&&◌, List, length, Bool, true, false, Some, None, Result, Err, refl, arith, rules, if◌then◌else◌}
use Rattle.std.specs.Prelude.{nat_le, nat_lt}
use Rattle.std.specs.Result.{OkIff}
use Rattle.std.specs.Str.{all_ascii_digits}
use Rattle.std.specs.Str.Parse.{digits_value, digits_value_after, ParsesUnsigned}
use Rattle.std.proofs.lemmas.Bool.{and_parts, ltb-true}
use Rattle.std.proofs.lemmas.Str.Parse.{IsNumeralModel, numerals_by_fold, parse_digits}
use Rattle.dk_cli.specs.Words.{is_short, version_spelled}

own : IsNumeralModel (λ ds. all_ascii_digits ds ≡ true) (digits_value 10)
own = numerals_by_fold _ (search rules) (digits_value_after 10) (search rules)

no_version : (number small : Bool) (value : ℕ) → small ≡ false → (if number && small then Some value else None) ≡ None
no_version true true value is = cc
no_version true false value is = refl
no_version false small value is = refl

-- what `parse` refuses is no version
pub refused : {E : Type 0} (word : List ℕ) (result : Result ℕ E) (e : E) → result ≡ Err e → ParsesUnsigned 64 10 word result → is_short word ≡ true → all_ascii_digits word ≡ true
    → version_spelled word ≡ None
refused word result e is parses short digits =
    no_version (is_short word && all_ascii_digits word) (nat_lt (digits_value 10 word) (2 ^ 63)) (digits_value 10 word) (by (nat_lt (digits_value 10 word) (2 ^ 63)) refl)
  where
    some : 0 < length word
    some = ltb-true 0 (length word) (and_parts (nat_lt 0 (length word)) (nat_le (length word) 19) short).0

    never : (0 < length word) × (digits_value 10 word < 2 ^ 64) → ⊥
    never = let refuses : OkIff (Err e) ((0 < length word) × (digits_value 10 word < 2 ^ 64)) (digits_value 10 word) = rw is at (parse_digits own 64 word result parses digits) in refuses

    by : (small : Bool) → nat_lt (digits_value 10 word) (2 ^ 63) ≡ small → small ≡ false
    by true less = let below : digits_value 10 word < 2 ^ 63 = ltb-true (digits_value 10 word) (2 ^ 63) less in absurd (never (some, omega (arith, below)))
    by false less = refl
