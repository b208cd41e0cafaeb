-- What stands behind a run's number makes a run, and bytes that end before it does begin one.
use Rattle.std.proofs.Common.{◌≡◌, ℕ, zero, suc, ◌+◌, ◌-◌, ◌*◌, ◌^◌, ◌<◌, ◌≤◌, Bool, true, false, cond, nat_lt, List, [], ◌∷◌, ◌++◌, length, replicate, Option, Some, None, ◌⊎◌, inl, inr, refl, sym, ap, subst, ◌∙◌, arith, lit<}
use Rattle.std.proofs.Math.Nat.{pow-zero, pow-suc, mul-suc, mul_comm, mul_assoc}
use Rattle.std.proofs.lemmas.Bool.{ltb-true, ltb-false}
use Rattle.std.proofs.lemmas.Nat.{pow-add, pow_pos}
use Rattle.std.proofs.lemmas.List.{append_assoc, length-append, length-replicate}
use Rattle.std.proofs.lemmas.List.Elements.{All-append, All-replicate}
use Rattle.std.specs.List.{All}
use Rattle.dk_grammar.specs.Varint.{IsVarint, varint_at, with_lowest_group}
use Rattle.dk_grammar.specs.Digits.{number_of, digits_of}
use Rattle.dk_grammar.specs.Runs.{Run, repeated, packed, header_of, bytes_for, IsBody, IsRun, BeginRun}
use Rattle.dk_grammar.proofs.Runs.{pair_is}
use Rattle.dk_grammar.proofs.Digits.{length-digits_of, digits_of-below, number_of-digits_of, number_of-below}

abbrev pub AreBytes : List ℕ → Type 0
AreBytes bytes = All (λ byte. byte < 256) bytes

pub pow-mul : (base m n : ℕ) → (base ^ m) ^ n ≡ base ^ (m * n)
pow-mul base m zero = pow-zero (base ^ m) ∙ sym (ap (λ k. base ^ k) (omega arith) ∙ pow-zero base)
pow-mul base m (suc n) =
    pow-suc (base ^ m) n ∙ ap (λ p. p * base ^ m) (pow-mul base m n) ∙ sym (pow-add base (m * n) m) ∙ ap (λ k. base ^ k) (sym (mul-suc m n))

pub turned_bits : (width groups : ℕ) → 8 * (groups * width) ≡ width * (8 * groups)
turned_bits width groups = grind (arith, mul_comm, mul_assoc)

-- so many bytes have room for so many values of the width
pub same_room : (width groups : ℕ) → 256 ^ (groups * width) ≡ (2 ^ width) ^ (8 * groups)
same_room width groups =
    let bits : 8 * (groups * width) ≡ width * (8 * groups) = turned_bits width groups in
    pow-mul 2 8 (groups * width) ∙ ap (λ k. 2 ^ k) bits ∙ sym (pow-mul 2 width (8 * groups))

-- the values that groups hold
abbrev pub grouped : ℕ → ℕ → List ℕ → List ℕ
grouped width groups body = digits_of (2 ^ width) (8 * groups) (number_of 256 body)

pub packed_body : (width groups : ℕ) (body : List ℕ) → AreBytes body → length body ≡ groups * width → IsBody width (packed (grouped width groups body)) body
packed_body width groups body bytes len =
    let count = length-digits_of (2 ^ width) (8 * groups) (number_of 256 body) in
    let small : number_of 256 body < 256 ^ length body = number_of-below 256 body bytes in
    let room : number_of 256 body < (2 ^ width) ^ (8 * groups) = subst (λ p. number_of 256 body < p) (ap (λ n. 256 ^ n) len ∙ same_room width groups) small in (
      rw count (omega arith),
      record {
        fit = digits_of-below (2 ^ width) (8 * groups) (number_of 256 body) (pow_pos width);
        bits = rw (count, len) (sym (turned_bits width groups));
        number = number_of-digits_of (2 ^ width) (8 * groups) (number_of 256 body) (pow_pos width) room;
      },
    )

pub packed_header : (width groups : ℕ) (body : List ℕ) → header_of (packed (grouped width groups body)) ≡ 2 * groups + 1
packed_header width groups body = rw (length-digits_of (2 ^ width) (8 * groups) (number_of 256 body)) (omega arith)

pub repeated_run : (width copies : ℕ) (header body : List ℕ) → IsVarint header (2 * copies) → length body ≡ bytes_for width
    → IsRun width (repeated copies (number_of 256 body)) (header ++ body)
repeated_run width copies header body number len = record { header = header; body = body; whole = refl; number = number; values = (len, refl) }

pub packed_run : (width groups : ℕ) (header body : List ℕ) → IsVarint header (2 * groups + 1) → AreBytes body → length body ≡ groups * width
    → IsRun width (packed (grouped width groups body)) (header ++ body)
packed_run width groups header body number bytes len = record {
  header = header;
  body = body;
  whole = refl;
  number = subst (IsVarint header) (sym (packed_header width groups body)) number;
  values = packed_body width groups body bytes len;
}

abbrev pub zeros : ℕ → List ℕ
zeros n = replicate n 0

-- what is missing may be zeros
padded : (part : List ℕ) (n : ℕ) → length part < n → length (part ++ zeros (n - length part)) ≡ n
padded part n less = omega (arith, length-append part (zeros (n - length part)), length-replicate {A = ℕ} (n - length part) 0)

missing_some : (part : List ℕ) (n : ℕ) → length part < n → 0 < length (zeros (n - length part))
missing_some part n less = omega (arith, length-replicate {A = ℕ} (n - length part) 0)

pub repeated_begun : (width copies : ℕ) (header part : List ℕ) → IsVarint header (2 * copies) → length part < bytes_for width → BeginRun width (header ++ part)
repeated_begun width copies header part number less =
    let missing = zeros (bytes_for width - length part) in
    record {
      run = repeated copies (number_of 256 (part ++ missing));
      missing = missing;
      some = missing_some part (bytes_for width) less;
      begun = rw append_assoc (repeated_run width copies header (part ++ missing) number (padded part (bytes_for width) less));
    }

pub packed_begun : (width groups : ℕ) (header part : List ℕ) → IsVarint header (2 * groups + 1) → AreBytes part → length part < groups * width → BeginRun width (header ++ part)
packed_begun width groups header part number bytes less =
    let missing = zeros (groups * width - length part) in
    let all : AreBytes (part ++ missing) = All-append (λ byte. byte < 256) part missing bytes (All-replicate (λ byte. byte < 256) (groups * width - length part) 0 (lit< tt)) in
    record {
      run = packed (grouped width groups (part ++ missing));
      missing = missing;
      some = missing_some part (groups * width) less;
      begun = rw append_assoc (packed_run width groups header (part ++ missing) number all (padded part (groups * width) less));
    }

longer : (b n high : ℕ) (front : List ℕ) → 128 ≤ b → n + 128 ≡ b + 128 * high → IsVarint front high → IsVarint (b ∷ front) n
longer b n high [] h e v = absurd v
longer b n high (c ∷ front) h e v = (h, (high, e, v))

cut_above : (low : ℕ) (read : Option (ℕ × List ℕ)) → with_lowest_group low read ≡ None → read ≡ None
cut_above low None h = refl
cut_above low (Some high) h = cc

chosen : {A : Type 0} (b : Bool) (x y z : A) → cond b x y ≡ z → ((b ≡ true) × (x ≡ z)) ⊎ ((b ≡ false) × (y ≡ z))
chosen true x y z h = inl (refl, h)
chosen false x y z h = inr (refl, h)

abbrev no_number : Option (ℕ × List ℕ)
no_number = None

-- a number that the bytes end in ends with one more byte
number_ends : (bytes : List ℕ) → varint_at bytes ≡ None → (n : ℕ) × IsVarint (bytes ++ 0 ∷ []) n
number_ends [] none = (0, (omega arith, refl))
number_ends (b ∷ bs) none =
    elim (chosen (nat_lt b 128) (Some (b, bs)) (with_lowest_group (b - 128) (varint_at bs)) no_number none) [
      | inl small ↦ (let never : Some (b, bs) ≡ no_number = small.1 in cc)
      | inr large ↦ (
          let rest = number_ends bs (cut_above (b - 128) (varint_at bs) large.1) in
          let big : 128 ≤ b = ltb-false b 128 large.0 in
          (b - 128 + 128 * rest.0, longer b (b - 128 + 128 * rest.0) rest.0 (bs ++ 0 ∷ []) big (omega arith) rest.1))
    ]

abbrev Halved : ℕ → Type 0
Halved n = ((half : ℕ) × (n ≡ 2 * half)) ⊎ ((half : ℕ) × (n ≡ 2 * half + 1))

halves : (n : ℕ) → Halved n
halves zero = inl (0, refl)
halves (suc n) = elim (halves n) [
  | inl even ↦ inr (even.0, omega (arith, even.1))
  | inr odd ↦ inl (suc odd.0, omega (arith, odd.1))
]

-- each number has a body of zeros
body_of_number : (width n : ℕ) (header : List ℕ) → IsVarint header n → (run : Run) × (body : List ℕ) × IsRun width run (header ++ body)
body_of_number width n header number =
    elim (halves n) [
      | inl even ↦ (
          let body = zeros (bytes_for width) in
          (repeated even.0 (number_of 256 body), body, repeated_run width even.0 header body (subst (IsVarint header) even.1 number) (length-replicate (bytes_for width) 0)))
      | inr odd ↦ (
          let body = zeros (odd.0 * width) in (
            packed (grouped width odd.0 body),
            body,
            packed_run width odd.0 header body (subst (IsVarint header) odd.1 number) (All-replicate (λ byte. byte < 256) (odd.0 * width) 0 (lit< tt)) (length-replicate (odd.0 * width) 0),
          ))
    ]

pub number_begun : (width : ℕ) (bytes : List ℕ) → varint_at bytes ≡ None → BeginRun width bytes
number_begun width bytes none =
    let whole = number_ends bytes none in
    let rest = body_of_number width whole.0 (bytes ++ 0 ∷ []) whole.1 in
    record {
      run = rest.0;
      missing = 0 ∷ rest.1;
      some = omega arith;
      begun = subst (λ bs. IsRun width rest.0 bs) (append_assoc bytes (0 ∷ []) rest.1) rest.2;
    }

under : (low : ℕ) (read : Option (ℕ × List ℕ)) (n : ℕ) (rest : List ℕ) → with_lowest_group low read ≡ Some (n, rest) → (high : ℕ) × (read ≡ Some (high, rest)) × (n ≡ low + 128 * high)
under low None n rest h = cc
under low (Some p) n rest h =
    let same : (low + 128 * p.0, p.1) ≡ (n, rest) = pair_is (low + 128 * p.0, p.1) (n, rest) h in
    (p.0, ap (λ bs. Some (p.0, bs)) (ap (λ (q : ℕ × List ℕ). q.1) same), sym (ap (λ (q : ℕ × List ℕ). q.0) same))

pub record SpellsFirst (bytes : List ℕ) (n : ℕ) (rest : List ℕ) : Type 0 where
  pub front : List ℕ
  pub whole : bytes ≡ front ++ rest
  pub spells : IsVarint front n

abbrev some_number : ℕ → List ℕ → Option (ℕ × List ℕ)
some_number n rest = Some (n, rest)

-- what is read is spelled by the bytes before the rest
pub varint_taken : (bytes : List ℕ) (n : ℕ) (rest : List ℕ) → varint_at bytes ≡ Some (n, rest) → SpellsFirst bytes n rest
varint_taken [] n rest h = cc
varint_taken (b ∷ bs) n rest h =
    elim (chosen (nat_lt b 128) (some_number b bs) (with_lowest_group (b - 128) (varint_at bs)) (some_number n rest) h) [
      | inl small ↦ (
          let same : (b, bs) ≡ (n, rest) = pair_is (b, bs) (n, rest) small.1 in
          let less : b < 128 = ltb-true b 128 small.0 in
          record {
            front = b ∷ [];
            whole = ap (λ (q : ℕ × List ℕ). b ∷ q.1) same;
            spells = (less, sym (ap (λ (q : ℕ × List ℕ). q.0) same));
          })
      | inr large ↦ (
          let high = under (b - 128) (varint_at bs) n rest large.1 in
          let behind = varint_taken bs high.0 rest high.1 in
          let big : 128 ≤ b = ltb-false b 128 large.0 in
          record {
            front = b ∷ behind.front;
            whole = ap (λ xs. b ∷ xs) behind.whole;
            spells = longer b n high.0 behind.front big (omega (arith, high.2)) behind.spells;
          })
    ]
