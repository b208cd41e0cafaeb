-- The bits of bytes are flags, and what stands behind them in the last byte is padding.
use Rattle.std.proofs.Common.{◌≡◌, ℕ, zero, suc, ◌+◌, ◌*◌, ◌/◌, ◌^◌, ◌<◌, ◌≤◌, ◌==◌, nat_le, Bool, Option, Some, None, List, [], ◌∷◌, ◌++◌, length, map, take, drop, refl, sym, ap, subst, ◌∙◌, append_assoc, arith, lit<}
use Rattle.std.specs.Option.{option_map}
use Rattle.std.specs.List.{All}
use Rattle.std.proofs.lemmas.List.{length-append, length-map, length-take-le, length-drop, take-append-drop, take-append-le}
use Rattle.std.proofs.lemmas.List.Elements.{All-nil, All-head, All-tail, All-append, All-take}
use Rattle.std.proofs.lemmas.Bool.{leb-true}
use Rattle.dk_grammar.specs.Digits.{number_of, digits_of}
use Rattle.dk_grammar.specs.Plain.{bit_of, AreFlags}
use Rattle.dk_grammar.specs.Runs.{ArePacked}
use Rattle.dk_grammar.proofs.Bodies.{AreBytes}
use Rattle.dk_grammar.proofs.Digits.{length-digits_of, digits_of-below, number_of-append, number_of-digits_of}
use Rattle.dk_pqmodel.specs.Shape.{flag}
use Rattle.dk_pqmodel.specs.Datum as cell
use Rattle.dk_pqmodel.specs.Datum.{Value}
use Rattle.dk_pqmodel.specs.Footer.{each_of}
use Rattle.dk_pqmodel.specs.FilePages.{InPlain}
use Rattle.dk_pqread.specs.Values.{bits_in, flag_of, flags_at, flag_at}
use Rattle.dk_pqread.proofs.PartLaws.{none_is_not_some, some_is, some_bound, when_is}

abbrev pub AreBits : List ℕ → Type 0
AreBits bits = All (λ bit. bit < 2) bits

-- ---- bits as flags

abbrev pub is_one : ℕ → Bool
is_one bit = bit == 1

bit_back : (bit : ℕ) → bit < 2 → bit_of (is_one bit) ≡ bit
bit_back zero small = refl
bit_back (suc zero) small = refl
bit_back (suc (suc bit)) small = absurd (omega arith)

pub bits_back : (bits : List ℕ) → AreBits bits → map bit_of (map is_one bits) ≡ bits
bits_back [] small = refl
bits_back (bit ∷ bits) small =
    rw (bit_back bit (All-head (λ n. n < 2) bit bits small), bits_back bits (All-tail (λ n. n < 2) bit bits small)) refl

pub as_flags : (bits : List ℕ) → map flag_of bits ≡ map cell.flag (map is_one bits)
as_flags [] = refl
as_flags (bit ∷ bits) = ap (λ more. flag_of bit ∷ more) (as_flags bits)

-- ---- bits of bytes

pub bits_long : (bytes : List ℕ) → length (bits_in bytes) ≡ 8 * length bytes
bits_long [] = refl
bits_long (b ∷ bs) =
    let both : length (digits_of 2 8 b ++ bits_in bs) ≡ length (digits_of 2 8 b) + length (bits_in bs) = length-append (digits_of 2 8 b) (bits_in bs) in
    omega (arith, both, length-digits_of 2 8 b, bits_long bs)

pub bits_small : (bytes : List ℕ) → AreBits (bits_in bytes)
bits_small [] = All-nil (λ bit. bit < 2)
bits_small (b ∷ bs) = All-append (λ bit. bit < 2) (digits_of 2 8 b) (bits_in bs) (digits_of-below 2 8 b (lit< tt)) (bits_small bs)

pub bits_number : (bytes : List ℕ) → AreBytes bytes → number_of 2 (bits_in bytes) ≡ number_of 256 bytes
bits_number [] small = refl
bits_number (b ∷ bs) small =
    let first : number_of 2 (digits_of 2 8 b) ≡ b = number_of-digits_of 2 8 b (lit< tt) (All-head (λ byte. byte < 256) b bs small) in
    let power : 2 ^ length (digits_of 2 8 b) ≡ 256 = ap (λ n. 2 ^ n) (length-digits_of 2 8 b) in
    let rest = bits_number bs (All-tail (λ byte. byte < 256) b bs small) in
    number_of-append 2 (digits_of 2 8 b) (bits_in bs)
    ∙ ap (λ n. n + 2 ^ length (digits_of 2 8 b) * number_of 2 (bits_in bs)) first
    ∙ ap (λ p. b + p * number_of 2 (bits_in bs)) power ∙ ap (λ n. b + 256 * n) rest

pub bits_joined : (front over : List ℕ) → bits_in (front ++ over) ≡ bits_in front ++ bits_in over
bits_joined [] over = refl
bits_joined (b ∷ bs) over = ap (λ more. digits_of 2 8 b ++ more) (bits_joined bs over) ∙ sym (append_assoc (digits_of 2 8 b) (bits_in bs) (bits_in over))

-- so many of the bits of bytes are flags, where fewer than eight are left
pub first_flags : (count : ℕ) (front : List ℕ) → AreBytes front → count ≤ 8 * length front → 8 * length front < count + 8 → AreFlags (map is_one (take count (bits_in front))) front
first_flags count front small enough few =
    let bits = bits_in front in
    let len : length bits ≡ 8 * length front = bits_long front in
    let back : map bit_of (map is_one (take count bits)) ≡ take count bits = bits_back (take count bits) (All-take (λ bit. bit < 2) count bits (bits_small front)) in
    let all : map bit_of (map is_one (take count bits)) ++ drop count bits ≡ bits = ap (λ xs. xs ++ drop count bits) back ∙ take-append-drop count bits in
    let whole : ArePacked 1 bits front = record { fit = bits_small front; bits = omega (arith, len); number = bits_number front small } in
    record {
      padding = drop count bits;
      short = omega (arith, length-drop count bits, len);
      packed = subst (λ xs. ArePacked 1 xs front) (sym all) whole;
    }

-- ---- flags in PLAIN

pub flags_stand : (count : ℕ) (bytes : List ℕ) (values : List Value) → AreBytes bytes → flags_at count bytes ≡ Some values → (length values ≡ count) × InPlain flag values bytes
flags_stand count bytes values small h =
    let c = when_is (nat_le count (8 * length bytes)) (map flag_of (take count (bits_in bytes))) values h in
    let enough : count ≤ 8 * length bytes = leb-true count (8 * length bytes) c.0 in
    let n : ℕ = (count + 7) / 8 in
    let room : n ≤ length bytes = omega arith in
    let front = take n bytes in
    let over = drop n bytes in
    let len : length front ≡ n = length-take-le n bytes room in
    let whole : bytes ≡ front ++ over = sym (take-append-drop n bytes) in
    let bits_len : length (bits_in front) ≡ 8 * length front = bits_long front in
    let within : count ≤ length (bits_in front) = omega (arith, len, bits_len) in
    let same : take count (bits_in bytes) ≡ take count (bits_in front) =
    ap (λ bs. take count (bits_in bs)) whole ∙ ap (take count) (bits_joined front over) ∙ take-append-le count (bits_in front) (bits_in over) within in
    let taken : map flag_of (take count (bits_in front)) ≡ values = ap (map flag_of) (sym same) ∙ c.1 in
    let long : length values ≡ count = ap length (sym taken) ∙ length-map (take count (bits_in front)) flag_of ∙ length-take-le count (bits_in front) within in
    let front_small : AreBytes front = All-take (λ byte. byte < 256) n bytes small in
    (long, (map is_one (take count (bits_in front)), front, over, whole, first_flags count front front_small (omega (arith, len)) (omega (arith, len)), sym taken ∙ as_flags (take count (bits_in front))))

-- ---- flags one by one

one_flag : (bit : ℕ) (v : Value) → flag_at bit ≡ Some v → (bit < 2) × (v ≡ cell.flag (is_one bit))
one_flag bit v h = (let c = when_is (nat_le bit 1) (flag_of bit) v h in let small : bit ≤ 1 = leb-true bit 1 c.0 in (omega (arith, small), sym c.1))

map_bound : {A B : Type 0} (o : Option A) (f : A → B) (y : B) → option_map f o ≡ Some y → (x : A) × ((o ≡ Some x) × (f x ≡ y))
map_bound None f y h = absurd (none_is_not_some y h)
map_bound (Some x) f y h = (x, (refl, some_is (f x) y h))

pub flags_found : (bits : List ℕ) (values : List Value) → each_of flag_at bits ≡ Some values → (map bit_of (map is_one bits) ≡ bits) × (values ≡ map cell.flag (map is_one bits))
flags_found [] values h = (let none : [] ≡ values = some_is [] values h in (refl, sym none))
flags_found (bit ∷ bits) values h =
    let x = some_bound (flag_at bit) (λ y. option_map (λ ys. y ∷ ys) (each_of flag_at bits)) values h in
    let y = map_bound (each_of flag_at bits) (λ ys. x.0 ∷ ys) values x.1.1 in
    let first = one_flag bit x.0 x.1.0 in
    let rest = flags_found bits y.0 y.1.0 in
    (rw (bit_back bit first.0, rest.0) refl, sym y.1.1 ∙ ap (λ v. v ∷ y.0) first.1 ∙ ap (λ vs. cell.flag (is_one bit) ∷ vs) rest.1)
