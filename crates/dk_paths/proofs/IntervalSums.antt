-- The sum of pairs so far and those that are left, and the value of a number's digits so far.
use Rattle.std.proofs.Common.{◌≡◌, ℕ, ℤ, pos, suc, ◌+◌, ◌-◌, ◌*◌, ◌^◌, ◌<◌, ◌≤◌, List, [], ◌∷◌, length, get_or, take, sum, refl, ap, sym, ◌∙◌, arith, add-one, true, false, if◌then◌else◌, Option, Some, None, to_z}
use Rattle.std.specs.Int.{w128}
use Rattle.std.specs.Prelude.{nat_le, ◌&&◌}
use Rattle.std.specs.List.{list_all}
use Rattle.std.specs.Char.{is_ascii_digit}
use Rattle.std.specs.Str.Parse.{digits_value}
use Rattle.std.proofs.Math.Nat.{pow-succ', pow-le-pow_right, mul-le-mul_left}
use Rattle.std.proofs.lemmas.Bool.Decides.{nat_tests}
use Rattle.std.proofs.lemmas.Int.{to_z_pos}
use Rattle.std.proofs.lemmas.List.Folds.{list_all_more}
use Rattle.std.proofs.lemmas.List.Sums.{sum_by-cons}
use Rattle.std.proofs.lemmas.Int.Digits.{digits_value_more}
use Rattle.dk_paths.specs.Intervals.{times, before_pairs, amount_of, unit_of, pair_values, sum_of_pairs}
use Rattle.dk_paths.proofs.Digits.{digit_of, is_digit}

-- the sum of the pairs that are left, after `count` pairs of `total` milliseconds
unfoldable pub sum_after : ℕ → ℕ → Option (List ℕ) → Option ℤ
sum_after count total None = None
sum_after count total (Some values) =
    if nat_le 1 (count + length values) && nat_le (count + length values) 8 then Some (pos (total + sum values)) else None

pub sum_after-none : (values : Option (List ℕ)) → sum_after 0 0 values ≡ sum_of_pairs values
unfolding sum_after
sum_after-none None = refl
sum_after-none (Some values) =
    let long : 0 + length values ≡ length values = omega arith in
    let whole : 0 + sum values ≡ sum values = omega arith in
    rw (long, whole) refl

-- one pair more
pub sum_after-before : (count total value : ℕ) (values : Option (List ℕ)) → sum_after count total (before_pairs (Some value) values) ≡ sum_after (count + 1) (total + value) values
unfolding sum_after
sum_after-before count total value None = refl
sum_after-before count total value (Some values) =
    let long : count + suc (length values) ≡ count + 1 + length values = omega arith in
    let whole : total + sum (value ∷ values) ≡ total + value + sum values = omega (arith, sum_by-cons (λ (n : ℕ). n) value values) in
    rw (long, whole) refl

-- no pair more
pub sum_after-end : (count total : ℕ) → 0 < count → count ≤ 8 → sum_after count total (Some []) ≡ Some (pos total)
unfolding sum_after
sum_after-end count total some few =
    let long : count + 0 ≡ count = omega arith in
    let whole : total + 0 ≡ total = omega arith in
    let least : nat_le 1 count ≡ true = grind (arith, nat_tests) in
    let most : nat_le count 8 ≡ true = grind (arith, nat_tests) in
    rw (long, whole, least, most) refl

pub sum_after-nothing : (total : ℕ) → sum_after 0 total (Some []) ≡ None
unfolding sum_after
sum_after-nothing total = refl

-- nine pairs are too many
pub sum_after-nine : (total : ℕ) (values : Option (List ℕ)) → sum_after 9 total values ≡ None
unfolding sum_after
sum_after-nine total None = refl
sum_after-nine total (Some values) =
    let least : nat_le 1 (9 + length values) ≡ true = grind (arith, nat_tests) in
    let many : nat_le (9 + length values) 8 ≡ false = grind (arith, nat_tests) in
    rw (least, many) refl

-- the whole sum, where no word is left
pub ends_empty : (count total : ℕ) (rest : List (List ℕ)) (whole : Option ℤ) → rest ≡ [] → count ≡ 0
    → sum_after count total (pair_values rest) ≡ whole → None ≡ whole
ends_empty count total rest whole no_word none same =
    sym (sum_after-nothing total) ∙ ap (λ n. sum_after n total (Some [])) (sym none)
    ∙ ap (λ (words : List (List ℕ)). sum_after count total (pair_values words)) (sym no_word) ∙ same

pub ends : (count total : ℕ) (rest : List (List ℕ)) (whole : Option ℤ) → rest ≡ [] → 0 < count → count ≤ 8 → total < 2 ^ 127
    → sum_after count total (pair_values rest) ≡ whole → Some (to_z w128 total) ≡ whole
ends count total rest whole no_word some few small same =
    ap Some (to_z_pos w128 total small) ∙ sym (sum_after-end count total some few) ∙ ap (λ (words : List (List ℕ)). sum_after count total (pair_values words)) (sym no_word) ∙ same

-- a number without a unit
no_pairs : (count total : ℕ) → sum_after count total None ≡ None
unfolding sum_after
no_pairs count total = refl

pub ends_alone : (count total : ℕ) (number : List ℕ) (rest after : List (List ℕ)) (whole : Option ℤ) → rest ≡ number ∷ after → after ≡ []
    → sum_after count total (pair_values rest) ≡ whole → None ≡ whole
ends_alone count total number rest after whole first alone same =
    sym (no_pairs count total) ∙ ap (λ (words : List (List ℕ)). sum_after count total (pair_values (number ∷ words))) (sym alone)
    ∙ ap (λ (words : List (List ℕ)). sum_after count total (pair_values words)) (sym first) ∙ same

-- a pair, and what is left behind it
pair_in : (count total : ℕ) (number unit : List ℕ) (rest after behind : List (List ℕ)) (whole : Option ℤ) → rest ≡ number ∷ after → after ≡ unit ∷ behind
    → sum_after count total (pair_values rest) ≡ whole → sum_after count total (before_pairs (times (amount_of number) (unit_of unit)) (pair_values behind)) ≡ whole
pair_in count total number unit rest after behind whole first second same =
    ap (λ (words : List (List ℕ)). sum_after count total (pair_values (number ∷ words))) (sym second)
    ∙ ap (λ (words : List (List ℕ)). sum_after count total (pair_values words)) (sym first) ∙ same

no_times : (number unit : Option ℕ) → unit ≡ None → times number unit ≡ None
no_times None unit is = refl
no_times (Some number) unit is = ap (times (Some number)) is

pub ends_number : (count total : ℕ) (number unit : List ℕ) (rest after behind : List (List ℕ)) (whole : Option ℤ) → rest ≡ number ∷ after
    → after ≡ unit ∷ behind → None ≡ amount_of number → sum_after count total (pair_values rest) ≡ whole → None ≡ whole
ends_number count total number unit rest after behind whole first second none same =
    sym (no_pairs count total)
    ∙ ap (λ (found : Option ℕ). sum_after count total (before_pairs (times found (unit_of unit)) (pair_values behind))) none
    ∙ pair_in count total number unit rest after behind whole first second same

pub ends_unit : (count total : ℕ) (number unit : List ℕ) (rest after behind : List (List ℕ)) (whole : Option ℤ) → rest ≡ number ∷ after
    → after ≡ unit ∷ behind → None ≡ unit_of unit → sum_after count total (pair_values rest) ≡ whole → None ≡ whole
ends_unit count total number unit rest after behind whole first second none same =
    sym (no_pairs count total)
    ∙ ap (λ (found : Option ℕ). sum_after count total (before_pairs found (pair_values behind))) (sym (no_times (amount_of number) (unit_of unit) (sym none)))
    ∙ pair_in count total number unit rest after behind whole first second same

pub goes_on : (count total n u : ℕ) (number unit : List ℕ) (rest after behind : List (List ℕ)) (whole : Option ℤ) → rest ≡ number ∷ after
    → after ≡ unit ∷ behind → Some n ≡ amount_of number → Some u ≡ unit_of unit → sum_after count total (pair_values rest) ≡ whole
    → sum_after (count + 1) (total + n * u) (pair_values behind) ≡ whole
goes_on count total n u number unit rest after behind whole first second is_n is_u same =
    sym (sum_after-before count total (n * u) (pair_values behind))
    ∙ ap (λ (found : Option ℕ). sum_after count total (before_pairs (times (Some n) found) (pair_values behind))) is_u
    ∙ ap (λ (found : Option ℕ). sum_after count total (before_pairs (times found (unit_of unit)) (pair_values behind))) is_n
    ∙ pair_in count total number unit rest after behind whole first second same

pub ends_nine : (count total : ℕ) (values : Option (List ℕ)) (whole : Option ℤ) → count ≡ 9 → sum_after count total values ≡ whole → None ≡ whole
ends_nine count total values whole nine same = sym (sum_after-nine total values) ∙ ap (λ n. sum_after n total values) (sym nine) ∙ same

-- a pair's milliseconds, of at most 12 digits and a week
pub pair_small : (n u : ℕ) → n < 10 ^ 12 → u ≤ 604800000 → n * u ≤ 604800000000000000000
pair_small n u small most =
    let first : n * u ≤ n * 604800000 = mul-le-mul_left n most in
    omega (arith, first)

-- a value below a power of ten, and one more digit
pub value_small : (value i digit : ℕ) → value < 10 ^ i → digit ≤ 9 → value * 10 + digit < 10 ^ (i + 1)
value_small value i digit small most = rw (add-one, pow-succ') (omega arith)

pub power_small : (value i : ℕ) → value < 10 ^ i → i ≤ 12 → value < 10 ^ 12
power_small value i small few =
    let bound : 10 ^ i ≤ 10 ^ 12 = pow-le-pow_right (omega arith) few in
    omega arith

-- one more digit of a number of at most 12
pub digits_more : (word : List ℕ) (i value : ℕ) → i < length word → is_ascii_digit (get_or word i 0) ≡ true → value ≡ digits_value 10 (take i word)
    → value * 10 + (get_or word i 0 - 48) ≡ digits_value 10 (take (i + 1) word)
digits_more word i value within test reads =
    let more = digits_value_more 10 word i within in
    let last = digit_of (get_or word i 0) (is_digit _ test) in
    omega (arith, more, last, reads)

pub all_more : (word : List ℕ) (i : ℕ) → i < length word → is_ascii_digit (get_or word i 0) ≡ true → list_all is_ascii_digit (take i word) ≡ true
    → list_all is_ascii_digit (take (i + 1) word) ≡ true
all_more word i within test before = list_all_more is_ascii_digit word i 0 within ∙ rw (before, test) refl

pub digit_small : (byte : ℕ) → is_ascii_digit byte ≡ true → byte - 48 ≤ 9
digit_small byte test =
    let is = is_digit byte test in
    let most : byte ≤ 57 = is.most in
    omega arith
