-- Digits of one count stand in byte order as their numbers do, and so do names that begin with versions.
use Rattle.std.proofs.Common.{◌≡◌, ℕ, zero, suc, ◌+◌, ◌*◌, ◌/◌, ◌%◌, ◌^◌, ◌<◌, List, [], ◌∷◌, ◌++◌, length, refl, ap, sym, ◌∙◌, arith, codes, true, false, inl, inr}
use Rattle.std.specs.Prelude.{◌==◌, nat_lt}
use Rattle.std.specs.Ordering.{nat_cmp, ordering_then}
use Rattle.std.specs.declared.cmp.Ordering.{Ordering}
use Rattle.std.specs.declared.cmp.Ordering.TheVariants.{Less, Equal, Greater}
use Rattle.std.specs.Cmp.Lexicographic.{slice_cmp}
use Rattle.std.proofs.Math.Nat.{pow-succ'}
use Rattle.std.proofs.lemmas.Bool.Decides.{nat_tests}
use Rattle.std.proofs.lemmas.Bool.{cases_lt}
use Rattle.dk_paths.specs.Numbers.{digits, version_text}
use Rattle.dk_paths.specs.Order.{VersionsOrderTexts, VersionsOrderCommits}
use Rattle.dk_paths.proofs.Digits.{length-digits}
use Rattle.dk_paths.proofs.Spelled.{version_small}

then-assoc : (a b c : Ordering) → ordering_then (ordering_then a b) c ≡ ordering_then a (ordering_then b c)
then-assoc Less b c = refl
then-assoc Equal b c = refl
then-assoc Greater b c = refl

then-equal : (a : Ordering) → ordering_then a Equal ≡ a
then-equal Less = refl
then-equal Equal = refl
then-equal Greater = refl

-- texts whose fronts have one length compare by their fronts first
slice_cmp-append : (xs ys us vs : List ℕ) → length xs ≡ length ys
    → slice_cmp nat_cmp (xs ++ us) (ys ++ vs) ≡ ordering_then (slice_cmp nat_cmp xs ys) (slice_cmp nat_cmp us vs)
slice_cmp-append [] [] us vs same = refl
slice_cmp-append [] (y ∷ ys) us vs same = absurd (omega arith)
slice_cmp-append (x ∷ xs) [] us vs same = absurd (omega arith)
slice_cmp-append (x ∷ xs) (y ∷ ys) us vs same =
    let tails : length xs ≡ length ys = omega arith in
    ap (ordering_then (nat_cmp x y)) (slice_cmp-append xs ys us vs tails)
    ∙ sym (then-assoc (nat_cmp x y) (slice_cmp nat_cmp xs ys) (slice_cmp nat_cmp us vs))

cmp-less : (m n : ℕ) → m < n → nat_cmp m n ≡ Less
cmp-less m n h = let test : nat_lt m n ≡ true = grind (arith, nat_tests) in rw test refl

cmp-equal : (m n : ℕ) → m ≡ n → nat_cmp m n ≡ Equal
cmp-equal m n h =
    let test : nat_lt m n ≡ false = grind (arith, nat_tests) in
    let same : (m == n) ≡ true = grind (arith, nat_tests) in
    rw (test, same) refl

cmp-greater : (m n : ℕ) → n < m → nat_cmp m n ≡ Greater
cmp-greater m n h =
    let test : nat_lt m n ≡ false = grind (arith, nat_tests) in
    let same : (m == n) ≡ false = grind (arith, nat_tests) in
    rw (test, same) refl

-- a number compares by its tens first, and then by its last digit
by_lasts : (m n : ℕ) → m / 10 ≡ n / 10 → nat_cmp (48 + m % 10) (48 + n % 10) ≡ nat_cmp m n
by_lasts m n tens =
    elim (cases_lt m n) [
      | inl less ↦ (let last : 48 + m % 10 < 48 + n % 10 = omega arith in cmp-less _ _ last ∙ sym (cmp-less m n less))
      | inr more ↦
          elim (cases_lt n m) [
            | inl greater ↦ (let last : 48 + n % 10 < 48 + m % 10 = omega arith in cmp-greater _ _ last ∙ sym (cmp-greater m n greater))
            | inr most ↦ (let same : m ≡ n = omega arith in let last : 48 + m % 10 ≡ 48 + n % 10 = omega arith in cmp-equal _ _ last ∙ sym (cmp-equal m n same))
          ]
    ]

by_tens : (m n : ℕ) → ordering_then (nat_cmp (m / 10) (n / 10)) (ordering_then (nat_cmp (48 + m % 10) (48 + n % 10)) Equal) ≡ nat_cmp m n
by_tens m n =
    let lasts = ordering_then (nat_cmp (48 + m % 10) (48 + n % 10)) Equal in
    elim (cases_lt (m / 10) (n / 10)) [
      | inl less ↦ (let whole : m < n = omega arith in ap (λ (o : Ordering). ordering_then o lasts) (cmp-less (m / 10) (n / 10) less) ∙ sym (cmp-less m n whole))
      | inr more ↦
          elim (cases_lt (n / 10) (m / 10)) [
            | inl greater ↦
                (let whole : n < m = omega arith in ap (λ (o : Ordering). ordering_then o lasts) (cmp-greater (m / 10) (n / 10) greater) ∙ sym (cmp-greater m n whole))
            | inr most ↦
                (let tens : m / 10 ≡ n / 10 = omega arith in
                ap (λ (o : Ordering). ordering_then o lasts) (cmp-equal (m / 10) (n / 10) tens) ∙ then-equal (nat_cmp (48 + m % 10) (48 + n % 10)) ∙ by_lasts m n tens)
          ]
    ]

slice_cmp-digits : (count m n : ℕ) → m < 10 ^ count → n < 10 ^ count → slice_cmp nat_cmp (digits count m) (digits count n) ≡ nat_cmp m n
unfolding digits
slice_cmp-digits zero m n small small' =
    let same : m ≡ n = omega arith in
    sym (cmp-equal m n same)
slice_cmp-digits (suc count) m n small small' =
    let scaled : m < 10 * 10 ^ count = rw pow-succ' at small in
    let scaled' : n < 10 * 10 ^ count = rw pow-succ' at small' in
    let front : m / 10 < 10 ^ count = omega arith in
    let front' : n / 10 < 10 ^ count = omega arith in
    slice_cmp-append (digits count (m / 10)) (digits count (n / 10)) ((48 + m % 10) ∷ []) ((48 + n % 10) ∷ [])
    (length-digits count (m / 10) ∙ sym (length-digits count (n / 10)))
    ∙ ap (λ (o : Ordering). ordering_then o (ordering_then (nat_cmp (48 + m % 10) (48 + n % 10)) Equal)) (slice_cmp-digits count (m / 10) (n / 10) front front')
    ∙ by_tens m n

pub versions_order_texts : VersionsOrderTexts
versions_order_texts v w rest rest' small small' =
    slice_cmp-append (version_text v) (version_text w) rest rest' (length-digits 20 v ∙ sym (length-digits 20 w))
    ∙ ap (λ (o : Ordering). ordering_then o (slice_cmp nat_cmp rest rest')) (slice_cmp-digits 20 v w (version_small v small) (version_small w small'))

pub versions_order_commits : VersionsOrderCommits
versions_order_commits v w small small' = versions_order_texts v w (codes ".json") (codes ".json") small small' ∙ then-equal (nat_cmp v w)
