-- A spelling of a number is read as the number, and what is written is a spelling.
use Rattle.std.proofs.Common.{◌≡◌, ℕ, zero, suc, ◌+◌, ◌-◌, ◌*◌, ◌<◌, ◌≤◌, ◌/◌, ◌%◌, Bool, true, false, nat_lt, List, [], ◌∷◌, ◌++◌, Some, ◌⊎◌, inl, inr, refl, sym, ap, arith}
use Rattle.std.proofs.Math.Nat.{div-add-mod, div-lt_self}
use Rattle.std.proofs.lemmas.Bool.{ltb-true, ltb-false, lt-ltb, le-ltb}
use Rattle.dk_grammar.specs.Varint.{IsVarint, varint_at, varint_bytes, groups}

pub varint_again : (front rest : List ℕ) (n : ℕ) → IsVarint front n → varint_at (front ++ rest) ≡ Some (n, rest)
varint_again [] rest n v = absurd v
varint_again (b ∷ []) rest n v = rw (lt-ltb b 128 v.0) (ap (λ x. Some (x, rest)) (sym v.1))
varint_again (b ∷ c ∷ front) rest n v =
    let high = v.1.0 in
    let e : n + 128 ≡ b + 128 * high = v.1.1 in
    let big : 128 ≤ b = v.0 in
    let value : b - 128 + 128 * high ≡ n = omega arith in
    rw (le-ltb b 128 big, varint_again (c ∷ front) rest high v.1.2) (ap (λ x. Some (x, rest)) value)

longer : (b n high : ℕ) (front : List ℕ) → 128 ≤ b → n + 128 ≡ b + 128 * high → IsVarint front high → IsVarint (b ∷ front) n
longer b n high [] h e v = absurd v
longer b n high (c ∷ front) h e v = (h, (high, e, v))

decided : (b : Bool) → (b ≡ true) ⊎ (b ≡ false)
decided true = inl refl
decided false = inr refl

groups_spell : (most n : ℕ) → n ≤ most → IsVarint (groups most n) n
unfolding groups
groups_spell zero n small = let e : n ≡ 0 = omega arith in (omega arith, refl)
groups_spell (suc most) n small =
    elim (decided (nat_lt n 128)) [
      | inl h ↦ rw h (ltb-true n 128 h, refl)
      | inr h ↦ (
          let big : 128 ≤ n = ltb-false n 128 h in
          let less : n / 128 < n = div-lt_self (omega arith) (omega arith) in
          let whole : 128 * (n / 128) + n % 128 ≡ n = div-add-mod n 128 in
          rw h (longer (128 + n % 128) n (n / 128) (groups most (n / 128)) (omega arith) (omega arith) (groups_spell most (n / 128) (omega arith))))
    ]

pub written_is_varint : (n : ℕ) → IsVarint (varint_bytes n) n
written_is_varint n = groups_spell n n (omega arith)

-- as many groups as the number's own size are enough, and more change nothing
more_groups : (some others n : ℕ) → n ≤ some → n ≤ others → groups some n ≡ groups others n
unfolding groups
more_groups zero zero n h k = refl
more_groups zero (suc others) n h k = let e : n ≡ 0 = omega arith in rw e refl
more_groups (suc some) zero n h k = let e : n ≡ 0 = omega arith in rw e refl
more_groups (suc some) (suc others) n h k =
    elim (decided (nat_lt n 128)) [
      | inl small ↦ rw small refl
      | inr big ↦ (
          let large : 128 ≤ n = ltb-false n 128 big in
          let less : n / 128 < n = div-lt_self (omega arith) (omega arith) in
          rw big (ap (λ bytes. (128 + n % 128) ∷ bytes) (more_groups some others (n / 128) (omega arith) (omega arith))))
    ]

pub last_group_written : (n : ℕ) → n < 128 → varint_bytes n ≡ n ∷ []
unfolding groups
last_group_written zero h = refl
last_group_written (suc n) h = rw (lt-ltb (suc n) 128 h) refl

pub low_group_written : (n : ℕ) → 128 ≤ n → varint_bytes n ≡ (128 + n % 128) ∷ varint_bytes (n / 128)
unfolding groups
low_group_written zero h = absurd (omega arith)
low_group_written (suc n) h =
    let less : suc n / 128 < suc n = div-lt_self (omega arith) (omega arith) in
    rw (le-ltb (suc n) 128 h) (ap (λ bytes. (128 + suc n % 128) ∷ bytes) (more_groups n (suc n / 128) (suc n / 128) (omega arith) (omega arith)))
