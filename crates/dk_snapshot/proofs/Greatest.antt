-- The greatest version of a list, and of a test that answers as the list does.
use Rattle.std.proofs.Common.{◌≡◌, ℕ, suc, zero, ◌<◌, ◌≤◌, List, [], ◌∷◌, refl, ap, sym, ◌∙◌, Bool, true, false, arith, eq-eqb, inl, inr, max}
use Rattle.std.specs.Prelude.{Some, None, ◌==◌, ◌||◌, ◌⊎◌}
use Rattle.std.proofs.lemmas.Bool.Decides.{eqb_tells}
use Rattle.dk_snapshot.specs.Plan.{greatest_below}
use Rattle.dk_snapshot.specs.Versions.{have_version, greatest_from, greatest_version}

-- ---- a list of versions

abbrev pub Has : List ℕ → ℕ → Type 0
Has versions v = have_version versions v ≡ true

true_or : (b : Bool) → (b || true) ≡ true
true_or true = refl
true_or false = refl

has_head : (v w : ℕ) (vs : List ℕ) → v ≡ w → Has (v ∷ vs) w
has_head v w vs same = rw (eq-eqb v w same) refl

has_tail : (v w : ℕ) (vs : List ℕ) → Has vs w → Has (v ∷ vs) w
has_tail v w vs h = rw h (true_or (v == w))

pub has_cases : (v w : ℕ) (vs : List ℕ) → Has (v ∷ vs) w → (v ≡ w) ⊎ Has vs w
has_cases v w vs h = elim (eqb_tells v w) [ inl t ↦ inl t.1 | inr f ↦ inr (rw f.0 at h) ]

first_of_max : (a b : ℕ) → (max a b ≡ a) ⊎ (max a b ≡ b)
first_of_max a b = elim (eqb_tells (max a b) a) [ inl t ↦ inl t.1 | inr f ↦ inr (omega (arith, f.1)) ]

-- the greatest of these and one more
record IsGreatest (best : ℕ) (vs : List ℕ) (n : ℕ) : Type 0 where
  is : greatest_from (Some best) vs ≡ Some n
  found : (best ≡ n) ⊎ Has vs n
  above : best ≤ n
  all : (w : ℕ) → Has vs w → w ≤ n

greatest_after : (best : ℕ) (vs : List ℕ) → (n : ℕ) × IsGreatest best vs n
greatest_after best [] = (best, record { is = refl; found = inl refl; above = omega arith; all = λ w h. cc })
greatest_after best (v ∷ vs) =
    let later : (n : ℕ) × IsGreatest (max best v) vs n = greatest_after (max best v) vs in
    let n : ℕ = later.0 in
    let here : v ≤ n = omega (arith, later.1.above) in (
      n,
      record {
        is = later.1.is;
        found = elim later.1.found [
          | inl e ↦ elim (first_of_max best v) [ inl b ↦ inl (sym b ∙ e) | inr c ↦ inr (has_head v n vs (sym c ∙ e)) ]
          | inr t ↦ inr (has_tail v n vs t)
        ];
        above = omega (arith, later.1.above);
        all = λ w h. elim (has_cases v w vs h) [ inl e ↦ omega arith | inr t ↦ later.1.all w t ];
      },
    )

-- ---- a test of versions

pub greatest_below-is : (test : ℕ → Bool) (limit n : ℕ) → n < limit → test n ≡ true → ((w : ℕ) → n < w → w < limit → test w ≡ false) → greatest_below test limit ≡ Some n
unfolding greatest_below
greatest_below-is test zero n lt here above = absurd (omega arith)
greatest_below-is test (suc v) n lt here above = elim (eqb_tells v n) [
  | inl t ↦ let same : v ≡ n = t.1 in let there : test v ≡ true = rw same here in rw there (ap Some same)
  | inr f ↦
      let apart : v ≡ n → ⊥ = f.1 in
      let less : n < v = omega arith in
      let gone : test v ≡ false = above v less (omega arith) in
      rw gone (greatest_below-is test v n less here (λ w a b. above w a (omega arith)))
]

greatest_below-none : (test : ℕ → Bool) (limit : ℕ) → ((w : ℕ) → w < limit → test w ≡ false) → greatest_below test limit ≡ None
unfolding greatest_below
greatest_below-none test zero none = refl
greatest_below-none test (suc v) none = let gone : test v ≡ false = none v (omega arith) in rw gone (greatest_below-none test v (λ w a. none w (omega arith)))

none_true : (b : Bool) → (b ≡ true → ⊥) → b ≡ false
none_true true never = absurd (never refl)
none_true false _ = refl

-- a test that answers as a list of versions does has its greatest
pub greatest_below-list : (versions : List ℕ) (test : ℕ → Bool) (limit : ℕ) → ((w : ℕ) → Has versions w → w < limit) → ((w : ℕ) → w < limit → have_version versions w ≡ test w) → greatest_below test limit ≡ greatest_version versions
greatest_below-list [] test limit small same = greatest_below-none test limit (λ w lt. sym (same w lt))
greatest_below-list (v ∷ vs) test limit small same =
    let top : (n : ℕ) × IsGreatest v vs n = greatest_after v vs in
    let n : ℕ = top.0 in
    let found : Has (v ∷ vs) n = elim top.1.found [ inl e ↦ has_head v n vs e | inr t ↦ has_tail v n vs t ] in
    let lt : n < limit = small n found in
    let here : test n ≡ true = sym (same n lt) ∙ found in
    let above : (w : ℕ) → n < w → w < limit → test w ≡ false = λ w a b. sym (same w b) ∙ none_true (have_version (v ∷ vs) w) (λ h. elim (has_cases v w vs h) [
      | inl e ↦ omega (arith, top.1.above)
      | inr t ↦ omega (arith, top.1.all w t)
    ]) in
    greatest_below-is test limit n lt here above ∙ sym top.1.is
