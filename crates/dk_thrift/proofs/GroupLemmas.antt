-- The value of a varint's bytes.
use Rattle.std.proofs.Common.{◌≡◌, ℕ, zero, suc, ◌+◌, ◌*◌, ◌<◌, ◌≤◌, ◌^◌, Bool, true, false, nat_lt, List, [], ◌∷◌, length, drop, take, get_or, Some, None, Ok, Err, refl, sym, ap, arith, ◌⊎◌, inl, inr, add-one}
use Rattle.std.proofs.lemmas.Bool.{ltb-false, le-ltb}
use Rattle.std.specs.List.{position, position_or_len}
use Rattle.std.proofs.lemmas.List.Quantifiers.{position-Some}
use Rattle.std.proofs.lemmas.Option.{none-some, cond_some}
use Rattle.dk_grammar.specs.Varint.{varint_at}
use Rattle.dk_grammar.specs.Thrift.{number_at, bad_at}
use Rattle.dk_grammar.specs.declared.thrift.Flaw.TheVariants.{Short}
use Rattle.dk_thrift.specs.Groups.{groups_value, in_64_bits}

-- a higher group counts 128 times
pub value_below : (bytes : List ℕ) (i : ℕ) → 0 < i → 128 * groups_value (drop i bytes) ≤ groups_value bytes
value_below [] zero h = absurd (omega arith)
value_below [] (suc i) h = omega arith
value_below (b ∷ bs) zero h = absurd (omega arith)
value_below (b ∷ bs) (suc zero) h = omega arith
value_below (b ∷ bs) (suc (suc i)) h = omega (arith, value_below bs (suc i) (omega arith))

-- where a part is too great, the whole is
pub too_great : (bytes : List ℕ) (i n : ℕ) → 0 < i → n ≡ groups_value (drop i bytes) → 2 ^ 57 ≤ n → None ≡ in_64_bits (groups_value bytes)
too_great bytes i n h e great =
    let big : 2 ^ 64 ≤ groups_value bytes = omega (arith, value_below bytes i h) in
    rw (le-ltb (groups_value bytes) (2 ^ 64) big) refl

decided : (b : Bool) → (b ≡ true) ⊎ (b ≡ false)
decided true = inl refl
decided false = inr refl

-- where no byte is the last, there is no varint
no_end : (bytes : List ℕ) → length bytes ≤ position_or_len (λ byte. nat_lt byte 128) bytes → varint_at bytes ≡ None
no_end [] h = refl
no_end (b ∷ bs) h =
    elim (decided (nat_lt b 128)) [
      | inl small ↦ (let more : length (b ∷ bs) ≤ 0 = rw small at h in absurd (omega arith))
      | inr big ↦ (let more : length (b ∷ bs) ≤ 1 + position_or_len (λ byte. nat_lt byte 128) bs = rw big at h in rw (big, no_end bs (omega arith)) refl)
    ]

pub cut_off : (bytes : List ℕ) → position (λ byte. nat_lt byte 128) bytes ≡ None → number_at bytes ≡ Err Short
cut_off bytes h =
    elim (decided (nat_lt (position_or_len (λ byte. nat_lt byte 128) bytes) (length bytes))) [
      | inl found ↦ absurd (none-some _ (sym (rw found at h)))
      | inr none ↦ rw (no_end bytes (ltb-false _ _ none)) refl
    ]

-- the first byte below 128 is the last
ends : (bytes : List ℕ) (i : ℕ) → i < length bytes → nat_lt (get_or bytes i 0) 128 ≡ true → ((k : ℕ) → k < i → nat_lt (get_or bytes k 0) 128 ≡ false)
    → varint_at bytes ≡ Some (groups_value (take (suc i) bytes), drop (suc i) bytes)
ends [] i within last before = absurd (omega arith)
ends (b ∷ bs) zero within last before = rw last (ap (λ n. Some (n, bs)) (omega arith))
ends (b ∷ bs) (suc i) within last before =
    let big : nat_lt b 128 ≡ false = before zero (omega arith) in
    rw (big, ends bs i (omega arith) last (λ k h. before (suc k) (omega arith))) refl

pub ended : (bytes : List ℕ) (i : ℕ) → position (λ byte. nat_lt byte 128) bytes ≡ Some i
    → varint_at bytes ≡ Some (groups_value (take (i + 1) bytes), drop (i + 1) bytes)
ended bytes i h =
    let p = position-Some (λ byte. nat_lt byte 128) bytes i 0 h in
    rw add-one (ends bytes i p.0 p.1 p.2)

module _ (bytes front rest : List ℕ) (last : ℕ) (found : Some last ≡ position (λ byte. nat_lt byte 128) bytes) (before : front ≡ take (last + 1) bytes) (behind : rest ≡ drop (last + 1) bytes) where
  whole : varint_at bytes ≡ Some (groups_value front, rest)
  whole = rw (before, behind) (ended bytes last (sym found))

  pub of_bytes : (n : ℕ) → Some n ≡ in_64_bits (groups_value front) → number_at bytes ≡ Ok (n, rest)
  of_bytes n e =
      let p = cond_some (nat_lt (groups_value front) (2 ^ 64)) _ _ (sym e) in
      rw (whole, p.0, p.1) refl

  pub too_many_bits : None ≡ in_64_bits (groups_value front) → number_at bytes ≡ bad_at bytes
  too_many_bits e =
      elim (decided (nat_lt (groups_value front) (2 ^ 64))) [
        | inl small ↦ absurd (none-some _ (rw small at e))
        | inr big ↦ rw (whole, big) refl
      ]
