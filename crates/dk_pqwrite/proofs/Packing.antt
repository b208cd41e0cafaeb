-- Flags are packed eight a byte.
use Rattle.std.proofs.Common.{◌≡◌, ℕ, zero, suc, ◌+◌, ◌-◌, ◌*◌, ◌^◌, ◌<◌, ◌≤◌, ◌==◌, Bool, true, false, List, [], ◌∷◌, ◌++◌, length, map, replicate, drop, get_or, min, ◌⊎◌, inl, inr, refl, sym, ap, subst, ◌∙◌, append_assoc, arith, lit<}
use Rattle.std.specs.List.{All}
use Rattle.std.proofs.Math.Nat.{pow-suc}
use Rattle.std.proofs.lemmas.Bool.{eqb-false}
use Rattle.std.proofs.lemmas.List.{length-append, length-map, length-replicate, map-append, append-nil, drop_more}
use Rattle.std.proofs.lemmas.List.Elements.{All-append, All-cons, All-replicate, All-nil}
use Rattle.dk_grammar.specs.Digits.{number_of}
use Rattle.dk_grammar.specs.Plain.{bit_of, AreFlags}
use Rattle.dk_grammar.specs.Runs.{ArePacked}
use Rattle.dk_grammar.proofs.Digits.{number_of-append}
use Rattle.dk_pqwrite.specs.Adding.{AddsBytes}

-- what is added, and then any bytes of the flags that are left, is all flags
pub record Goes (flags rest : List Bool) (old new : List ℕ) : Type 0 where
  pub done : List ℕ
  pub added : new ≡ old ++ done
  pub go_on : (more : List ℕ) → AreFlags rest more → AreFlags flags (done ++ more)
  pub size : length done + length rest ≤ length flags

-- ---- a byte of flags

pub next_bit : (flags : List Bool) (i byte : ℕ) (d : Bool) → 0 < i → i ≤ length flags → byte ≡ number_of 2 (map bit_of (drop i flags))
    → 2 * byte + bit_of (get_or flags (i - 1) d) ≡ number_of 2 (map bit_of (drop (i - 1) flags))
next_bit flags i byte d some within is =
    let before : i - 1 + 1 ≡ i = omega arith in
    let front : drop (i - 1) flags ≡ get_or flags (i - 1) d ∷ drop (i - 1 + 1) flags = drop_more flags (i - 1) d (omega arith) in
    let value : number_of 2 (map bit_of (drop (i - 1) flags)) ≡ bit_of (get_or flags (i - 1) d) + 2 * number_of 2 (map bit_of (drop i flags)) =
    ap (λ xs. number_of 2 (map bit_of xs)) front ∙ ap (λ k. bit_of (get_or flags (i - 1) d) + 2 * number_of 2 (map bit_of (drop k flags))) before in
    omega (arith, value, is)

pub bit_small : (flag : Bool) → bit_of flag < 2
bit_small true = omega arith
bit_small false = omega arith

pub bits_small : (flags : List Bool) → All (λ bit. bit < 2 ^ 1) (map bit_of flags)
bits_small [] = All-nil (λ bit. bit < 2 ^ 1)
bits_small (flag ∷ flags) = All-cons (λ bit. bit < 2 ^ 1) (bit_of flag) (map bit_of flags) (bit_small flag) (bits_small flags)

pub next_small : (len i byte bit : ℕ) → 0 < i → i ≤ len → byte < 2 ^ (len - i) → bit < 2 → 2 * byte + bit < 2 ^ (len - (i - 1))
next_small len i byte bit some within small fits =
    let up : len - (i - 1) ≡ suc (len - i) = omega arith in
    rw (up, pow-suc) (omega arith)

-- ---- bytes of flags

none_left : (more : List ℕ) → AreFlags [] more → more ≡ []
none_left [] h = refl
none_left (b ∷ bs) h = absurd (omega (arith, h.short, h.packed.bits))

-- whole bytes of flags, and those behind them
whole_group : (group after : List Bool) (more : List ℕ) → length group ≡ 8 → AreFlags after more → AreFlags (group ++ after) (number_of 2 (map bit_of group) ∷ more)
whole_group group after more eight h =
    let bits : map bit_of (group ++ after) ++ h.padding ≡ map bit_of group ++ (map bit_of after ++ h.padding) =
    ap (λ xs. xs ++ h.padding) (map-append bit_of group after) ∙ append_assoc (map bit_of group) (map bit_of after) h.padding in
    let long : length (map bit_of group) ≡ 8 = length-map group bit_of ∙ eight in
    let power : 2 ^ length (map bit_of group) ≡ 256 = ap (λ n. 2 ^ n) long in
    let rest = map bit_of after ++ h.padding in
    let number : number_of 2 (map bit_of group ++ rest) ≡ number_of 2 (map bit_of group) + 256 * number_of 256 more =
    number_of-append 2 (map bit_of group) rest ∙ ap (λ p. number_of 2 (map bit_of group) + p * number_of 2 rest) power ∙ ap (λ n. number_of 2 (map bit_of group) + 256 * n) h.packed.number in
    record {
      padding = h.padding;
      short = h.short;
      packed = subst (λ xs. ArePacked 1 xs (number_of 2 (map bit_of group) ∷ more)) (sym bits) record {
        fit = All-append (λ bit. bit < 2 ^ 1) (map bit_of group) rest (bits_small group) h.packed.fit;
        bits = omega (arith, h.packed.bits, long, length-append (map bit_of group) rest);
        number = number;
      };
    }

zeros_number : (n : ℕ) → number_of 2 (replicate n 0) ≡ 0
zeros_number zero = refl
zeros_number (suc n) = omega (arith, zeros_number n)

-- the last flags, padded with zeros
last_group : (group : List Bool) → 0 < length group → length group ≤ 8 → AreFlags group (number_of 2 (map bit_of group) ∷ [])
last_group group some few =
    let padding = replicate (8 - length group) 0 in
    let long : length (map bit_of group) ≡ length group = length-map group bit_of in
    let pad : length padding ≡ 8 - length group = length-replicate (8 - length group) 0 in
    let number : number_of 2 (map bit_of group ++ padding) ≡ number_of 2 (map bit_of group) + 2 ^ length (map bit_of group) * 0 =
    number_of-append 2 (map bit_of group) padding ∙ ap (λ n. number_of 2 (map bit_of group) + 2 ^ length (map bit_of group) * n) (zeros_number (8 - length group)) in
    record {
      padding = padding;
      short = omega (arith, pad);
      packed = record {
        fit = All-append (λ bit. bit < 2 ^ 1) (map bit_of group) padding (bits_small group) (All-replicate (λ bit. bit < 2 ^ 1) (8 - length group) 0 (lit< tt));
        bits = omega (arith, long, pad, length-append (map bit_of group) padding);
        number = omega (arith, number);
      };
    }

-- one byte more
group_more : (group after : List Bool) (more : List ℕ) → 0 < length group → length group ≤ 8 → (length group < 8 → after ≡ []) → AreFlags after more
    → AreFlags (group ++ after) (number_of 2 (map bit_of group) ∷ more)
group_more group after more some few last h = elim (full_or_last (length group) few) [
  | inl eight ↦ whole_group group after more eight h
  | inr less ↦ (
      let end = last less in
      let none : more ≡ [] = none_left more (subst (λ xs. AreFlags xs more) end h) in
      rw (end, none, append-nil) (last_group group some few))
] where
  full_or_last : (n : ℕ) → n ≤ 8 → (n ≡ 8) ⊎ (n < 8)
  full_or_last n h = grind arith

step : (flags rest group behind : List Bool) (old out new : List ℕ) (byte : ℕ) → Goes flags rest old out → rest ≡ group ++ behind → 0 < length group → length group ≤ 8
    → (length group < 8 → behind ≡ []) → byte ≡ number_of 2 (map bit_of group) → new ≡ out ++ byte ∷ [] → Goes flags behind old new
step flags rest group behind old out new byte h split some few last is e = record {
  done = h.done ++ byte ∷ [];
  added = e ∙ ap (λ xs. xs ++ byte ∷ []) h.added ∙ append_assoc old h.done (byte ∷ []);
  go_on = λ more m. rw (append_assoc, is) (h.go_on (number_of 2 (map bit_of group) ∷ more) (rw split (group_more group behind more some few last m)));
  size = omega (arith, h.size, ap length split, length-append group behind, length-append h.done (byte ∷ []));
}

pub begun : (flags : List Bool) (old : List ℕ) → Goes flags flags old old
begun flags old = record { done = []; added = sym (append-nil old); go_on = λ more m. m; size = omega arith }

ended : (flags rest : List Bool) (old new : List ℕ) → rest ≡ [] → Goes flags rest old new → AddsBytes (AreFlags flags) (length flags) old new
ended flags rest old new none h =
    let nothing : AreFlags [] [] = record { padding = []; short = lit< tt; packed = record { fit = All-nil (λ bit. bit < 2 ^ 1); bits = refl; number = refl } } in
    record {
      part = h.done;
      added = h.added;
      is = subst (AreFlags flags) (append-nil h.done) (h.go_on [] (rw none nothing));
      size = omega (arith, h.size);
    }

no_flags : (xs : List Bool) → length xs ≡ 0 → xs ≡ []
no_flags [] h = refl
no_flags (x ∷ xs) h = absurd (omega (arith, h))

-- the step where so many are split off
pub step_at : (flags rest group behind : List Bool) (n : ℕ) (old out new : List ℕ) (byte : ℕ) → Goes flags rest old out → rest ≡ group ++ behind → length group ≡ n
    → length behind + n ≡ length rest → n ≡ min (length rest) 8 → 0 < length rest → byte ≡ number_of 2 (map bit_of group) → new ≡ out ++ byte ∷ [] → Goes flags behind old new
step_at flags rest group behind n old out new byte h split front back least some is e =
    step flags rest group behind old out new byte h split (omega (arith, front, least)) (omega (arith, front, least))
    (λ less. no_flags behind (omega (arith, less, front, back, least))) is e

pub ended_at : (flags rest : List Bool) (old new : List ℕ) → length rest ≡ 0 → Goes flags rest old new → AddsBytes (AreFlags flags) (length flags) old new
ended_at flags rest old new none h = ended flags rest old new (no_flags rest none) h

pub positive : (n : ℕ) → (n == 0) ≡ false → 0 < n
positive n h = (let some : n ≡ 0 → ⊥ = eqb-false n 0 h in grind arith)
