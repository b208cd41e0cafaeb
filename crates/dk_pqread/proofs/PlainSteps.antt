-- Plain values and flags, one after another.
use Rattle.std.proofs.Common.{◌≡◌, ℕ, zero, suc, ◌+◌, ◌-◌, ◌/◌, ◌%◌, ◌<◌, ◌≤◌, min, Option, Some, None, List, [], ◌∷◌, ◌++◌, length, get_or, map, take, refl, sym, ap, ◌∙◌, append_assoc, arith}
use Rattle.std.specs.Option.{option_map}
use Rattle.std.proofs.lemmas.List.{append-nil, length-map, length-take, map-append, take_more}
use Rattle.dk_grammar.specs.Digits.{digits_of}
use Rattle.dk_pqmodel.specs.Shape.{Leaf}
use Rattle.dk_pqmodel.specs.Datum.{Value}
use Rattle.dk_pqmodel.specs.declared.fault.PqFault.{PqFault}
use Rattle.dk_levels.specs.Answers.{FailsMeant}
use Rattle.dk_pqread.specs.Values.{plain_at, plains_at, bits_in, flag_of, values_then}
use Rattle.dk_pqread.proofs.Failing.{fails_same}

one_taken : (done : List Value) (v : Value) (left : Option (List Value × List ℕ)) → values_then done (option_map (λ more. (v ∷ more.0, more.1)) left) ≡ values_then (done ++ (v ∷ [])) left
one_taken done v None = refl
one_taken done v (Some x) = ap (λ vs. Some (vs, x.1)) (sym (append_assoc done (v ∷ []) x.0))

module _ (kind : Leaf) (n i : ℕ) (done : List Value) (rest : List ℕ) (whole : Option (List Value × List ℕ)) (h : i < n) (left : values_then done (plains_at kind (n - i) rest) ≡ whole) where
  opened : values_then done (plains_at kind (suc (n - (i + 1))) rest) ≡ whole
  opened =
      let e : n - i ≡ suc (n - (i + 1)) = omega arith in
      ap (λ m. values_then done (plains_at kind m rest)) (sym e) ∙ left

  pub value_taken : (v : Value) (behind : List ℕ) (now : List Value) → plain_at kind rest ≡ Some (v, behind) → now ≡ done ++ v ∷ [] → values_then now (plains_at kind (n - (i + 1)) behind) ≡ whole
  value_taken v behind now e pushed =
      ap (λ x. values_then x (plains_at kind (n - (i + 1)) behind)) pushed ∙ sym (one_taken done v (plains_at kind (n - (i + 1)) behind)) ∙ (rw e at opened)

  pub value_missing : (fault : PqFault) → FailsMeant fault (plain_at kind rest) → FailsMeant fault whole
  value_missing fault bad = fails_same fault (plain_at kind rest) whole (λ e. sym opened ∙ rw e refl) bad

-- ---- bits

pub bit_taken : (most i bits : ℕ) (done now whole : List Value) (v : Value) → i < min most 8 → v ≡ flag_of (bits % 2) → now ≡ done ++ v ∷ []
    → done ++ map flag_of (take (most - i) (digits_of 2 (8 - i) bits)) ≡ whole → now ++ map flag_of (take (most - (i + 1)) (digits_of 2 (8 - (i + 1)) (bits / 2))) ≡ whole
bit_taken most i bits done now whole v h is pushed left =
    let m : most - i ≡ suc (most - (i + 1)) = omega arith in
    let k : 8 - i ≡ suc (8 - (i + 1)) = omega arith in
    let rest = map flag_of (take (most - (i + 1)) (digits_of 2 (8 - (i + 1)) (bits / 2))) in
    ap (λ x. x ++ rest) pushed ∙ append_assoc done (v ∷ []) rest ∙ ap (λ x. done ++ (x ∷ rest)) is
    ∙ sym (ap (λ n. done ++ map flag_of (take n (digits_of 2 (8 - i) bits))) m ∙ ap (λ n. done ++ map flag_of (take (suc (most - (i + 1))) (digits_of 2 n bits))) k) ∙ left

none_taken : (a b bits : ℕ) → (a ≡ 0) → take a (digits_of 2 b bits) ≡ []
none_taken a b bits e = rw e refl

no_digits : (a b bits : ℕ) → (b ≡ 0) → take a (digits_of 2 b bits) ≡ []
no_digits zero b bits e = refl
no_digits (suc a) b bits e = rw e refl

nothing_left : (most i bits : ℕ) → min most 8 ≤ i → i ≤ most → i ≤ 8 → take (most - i) (digits_of 2 (8 - i) bits) ≡ []
nothing_left most i bits h a b = by_least (most - i) refl
  where
    by_least : (n : ℕ) → most - i ≡ n → take (most - i) (digits_of 2 (8 - i) bits) ≡ []
    by_least zero e = none_taken (most - i) (8 - i) bits e
    by_least (suc n) e = (let end : 8 - i ≡ 0 = omega arith in no_digits (most - i) (8 - i) bits end)

pub bits_done : (most i bits : ℕ) (done whole : List Value) → min most 8 ≤ i → i ≤ min most 8 → done ++ map flag_of (take (most - i) (digits_of 2 (8 - i) bits)) ≡ whole → done ≡ whole
bits_done most i bits done whole h k left =
    sym (ap (λ ds. done ++ map flag_of ds) (nothing_left most i bits h (omega arith) (omega arith)) ∙ append-nil done) ∙ left

-- ---- flags of bytes

take_parts : (n : ℕ) (xs ys : List ℕ) → take n (xs ++ ys) ≡ take n xs ++ take (n - length xs) ys
take_parts zero xs ys = (let e : 0 - length xs ≡ 0 = omega arith in rw e refl)
take_parts (suc n) [] ys = (let e : suc n - 0 ≡ suc n = omega arith in rw e refl)
take_parts (suc n) (x ∷ xs) ys =
    let e : suc n - suc (length xs) ≡ n - length xs = omega arith in
    rw e (ap (λ zs. x ∷ zs) (take_parts n xs ys))

bits_more : (xs : List ℕ) (b : ℕ) → bits_in (xs ++ b ∷ []) ≡ bits_in xs ++ digits_of 2 8 b
bits_more [] b = append-nil (digits_of 2 8 b)
bits_more (x ∷ xs) b = ap (λ zs. digits_of 2 8 x ++ zs) (bits_more xs b) ∙ sym (append_assoc (digits_of 2 8 x) (bits_in xs) (digits_of 2 8 b))

-- the flags of one byte more
pub byte_more : (bytes : List ℕ) (i count missing : ℕ) (done now : List Value) → i < length bytes → missing ≡ count - length done
    → done ≡ map flag_of (take count (bits_in (take i bytes))) → now ≡ done ++ map flag_of (take missing (digits_of 2 8 (get_or bytes i 0))) → now ≡ map flag_of (take count (bits_in (take (i + 1) bytes)))
byte_more bytes i count missing done now h room before added =
    let b = get_or bytes i 0 in
    let xs = bits_in (take i bytes) in
    let len : length done ≡ min count (length xs) = ap length before ∙ length-map (take count xs) flag_of ∙ length-take count xs in
    let same : missing ≡ count - length xs = omega (arith, room, len) in
    let whole : bits_in (take (i + 1) bytes) ≡ xs ++ digits_of 2 8 b = ap bits_in (take_more bytes i 0 h) ∙ bits_more (take i bytes) b in
    added ∙ ap (λ x. x ++ map flag_of (take missing (digits_of 2 8 b))) before ∙ ap (λ m. map flag_of (take count xs) ++ map flag_of (take m (digits_of 2 8 b))) same
    ∙ sym (map-append flag_of (take count xs) (take (count - length xs) (digits_of 2 8 b))) ∙ ap (map flag_of) (sym (take_parts count xs (digits_of 2 8 b)))
    ∙ ap (λ x. map flag_of (take count x)) (sym whole)
