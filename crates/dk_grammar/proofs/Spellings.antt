-- Reading goes by the grammar.
use Rattle.std.proofs.Common.{◌≡◌, ℕ, ◌+◌, ◌-◌, ◌*◌, ◌<◌, ◌≤◌, ◌/◌, ◌%◌, ◌^◌, true, nat_lt, nat_le, ◌==◌, ◌||◌, IsTrue, ℤ, pos, ◌+ℤ◌, List, [], ◌∷◌, ◌++◌, length, take, drop, Option, Some, None, Result, Ok, Err, inl, inr, refl, sym, ap, subst, ◌∙◌, arith, append_assoc}
use Rattle.std.proofs.Math.Nat.{div-add-mod, mod-lt}
use Rattle.std.proofs.Math.Seq.{take-append_seam, drop-append_seam}
use Rattle.std.proofs.lemmas.Nat.{mod-mul-add, div-mul-add}
use Rattle.std.proofs.lemmas.List.{take-append-drop, length-append, length-take-le}
use Rattle.std.proofs.lemmas.Bool.{and_parts, leb-true, le-leb, eqb-true, eqb-false, ne_eqb, ltb-true, ltb-false, lt-ltb, le-ltb, or_cases}
use Rattle.dk_grammar.specs.Varint.{IsVarint, varint_at, with_lowest_group}
use Rattle.dk_grammar.specs.Zigzag.{zigzag_of}
use Rattle.dk_grammar.specs.Thrift.{of_64_bits, number_at, whole_at, bytes_at, binary_at, count_at, list_at, head, field_at, id_at, is_id, is_kind}
use Rattle.dk_grammar.specs.Grammar.{SpellsNumber, SpellsWhole, SpellsBinary, SpellsField, SpellsList, Spelled, ReadsBy}
use Rattle.dk_grammar.specs.declared.thrift.Field.{Field}
use Rattle.dk_grammar.specs.declared.thrift.Field.TheVariants.{End, Next}
use Rattle.dk_grammar.specs.declared.thrift.ListHead.{ListHead}
use Rattle.dk_grammar.specs.declared.thrift.Flaw.{Flaw}
use Rattle.dk_grammar.specs.declared.thrift.Flaw.TheVariants.{Short}
use Rattle.dk_grammar.proofs.Varints.{varint_again}
use Rattle.dk_grammar.proofs.Fronts.{choice, bound, ok, ok_is, bad_is_not_ok}

longer : (b n high : ℕ) (front : List ℕ) → 128 ≤ b → n ≡ b - 128 + 128 * high → IsVarint front high → IsVarint (b ∷ front) n
longer b n high [] h e v = absurd v
longer b n high (c ∷ front) h e v = (h, (high, omega arith, v))

some_is : (x y : ℕ × List ℕ) → Some x ≡ Some y → x ≡ y
some_is x y h = cc

under : (low : ℕ) (r : Option (ℕ × List ℕ)) (x : ℕ × List ℕ) → with_lowest_group low r ≡ Some x → (y : ℕ × List ℕ) × (r ≡ Some y) × ((low + 128 * y.0, y.1) ≡ x)
under low None x h = cc
under low (Some y) x h = (y, refl, some_is _ x h)

pub varint_spelled : (bytes rest : List ℕ) (n : ℕ) → varint_at bytes ≡ Some (n, rest) → Spelled IsVarint bytes n rest
varint_spelled [] rest n h = cc
varint_spelled (b ∷ bs) rest n h =
    elim (choice (nat_lt b 128) _ _ _ h) [
      | inl c ↦ (let e = some_is (b, bs) (n, rest) c.1 in (b ∷ [], ap (λ x. b ∷ x.1) e, (ltb-true b 128 c.0, sym (ap (λ x. x.0) e))))
      | inr c ↦ (
          let y = under (b - 128) (varint_at bs) (n, rest) c.1 in
          let t = varint_spelled bs y.0.1 y.0.0 y.1 in
          let e : b - 128 + 128 * y.0.0 ≡ n = ap (λ x. x.0) y.2 in
          let r : y.0.1 ≡ rest = ap (λ x. x.1) y.2 in
          (b ∷ t.0, ap (λ x. b ∷ x) (t.1 ∙ ap (λ x. t.0 ++ x) r), longer b n y.0.0 t.0 (ltb-false b 128 c.0) (sym e) t.2))
    ]

number_spelled_by : (bytes rest : List ℕ) (n : ℕ) (r : Option (ℕ × List ℕ)) → varint_at bytes ≡ r → of_64_bits bytes r ≡ Ok (n, rest) → Spelled SpellsNumber bytes n rest
number_spelled_by bytes rest n None e h = cc
number_spelled_by bytes rest n (Some x) e h =
    elim (choice (nat_lt x.0 (2 ^ 64)) _ _ _ h) [
      | inl c ↦ (
          let p = ok_is (x.0, x.1) (n, rest) c.1 in
          let t = varint_spelled bytes x.1 x.0 e in
          let s : SpellsNumber t.0 x.0 = (t.2, ltb-true x.0 (2 ^ 64) c.0) in
          (t.0, t.1 ∙ ap (λ y. t.0 ++ y.1) p, subst (λ y. SpellsNumber t.0 y.0) p s))
      | inr c ↦ absurd (bad_is_not_ok bytes (n, rest) c.1)
    ]

number_spelled : (bytes rest : List ℕ) (n : ℕ) → number_at bytes ≡ Ok (n, rest) → Spelled SpellsNumber bytes n rest
number_spelled bytes rest n h = number_spelled_by bytes rest n (varint_at bytes) refl h

number_given : (front rest : List ℕ) (n : ℕ) → SpellsNumber front n → number_at (front ++ rest) ≡ Ok (n, rest)
number_given front rest n s = rw (varint_again front rest n s.0, lt-ltb n (2 ^ 64) s.1) refl

pub numbers : ReadsBy SpellsNumber number_at
numbers = record { spelled = number_spelled; given = number_given }

whole_spelled : (bytes rest : List ℕ) (z : ℤ) → whole_at bytes ≡ Ok (z, rest) → Spelled SpellsWhole bytes z rest
whole_spelled bytes rest z h =
    let x = bound (number_at bytes) _ (z, rest) h in
    let p = ok_is (zigzag_of x.0.0, x.0.1) (z, rest) x.2 in
    let t = number_spelled bytes x.0.1 x.0.0 x.1 in
    (t.0, t.1 ∙ ap (λ y. t.0 ++ y.1) p, (x.0.0, t.2, sym (ap (λ y. y.0) p)))

whole_given : (front rest : List ℕ) (z : ℤ) → SpellsWhole front z → whole_at (front ++ rest) ≡ Ok (z, rest)
whole_given front rest z s = rw (number_given front rest s.0 s.1, s.2) refl

pub wholes : ReadsBy SpellsWhole whole_at
wholes = record { spelled = whole_spelled; given = whole_given }

abbrev pub short : {A : Type 0} → Result A Flaw
short = Err Short

pub short_is_not_ok : {A : Type 0} (y : A) → short ≡ ok y → ⊥
short_is_not_ok y h = cc

pub bytes_spelled : (n : ℕ) (bytes part rest : List ℕ) → bytes_at n bytes ≡ Ok (part, rest) → (length part ≡ n) × (bytes ≡ part ++ rest)
bytes_spelled n bytes part rest h =
    elim (choice (nat_le n (length bytes)) _ _ _ h) [
      | inl c ↦ (
          let p = ok_is (take n bytes, drop n bytes) (part, rest) c.1 in
          let first : take n bytes ≡ part = ap (λ x. x.0) p in
          let second : drop n bytes ≡ rest = ap (λ x. x.1) p in
          (sym (ap length first) ∙ length-take-le n bytes (leb-true n (length bytes) c.0), rw (← first, ← second) (sym (take-append-drop n bytes))))
      | inr c ↦ absurd (short_is_not_ok (part, rest) c.1)
    ]

pub bytes_given : (part rest : List ℕ) → bytes_at (length part) (part ++ rest) ≡ Ok (part, rest)
bytes_given part rest =
    let l : length (part ++ rest) ≡ length part + length rest = length-append part rest in
    rw (le-leb (length part) (length (part ++ rest)) (omega arith), take-append_seam, drop-append_seam) refl

binary_spelled : (bytes rest part : List ℕ) → binary_at bytes ≡ Ok (part, rest) → Spelled SpellsBinary bytes part rest
binary_spelled bytes rest part h =
    let x = bound (number_at bytes) _ (part, rest) h in
    let t = number_spelled bytes x.0.1 x.0.0 x.1 in
    let p = bytes_spelled x.0.0 x.0.1 part rest x.2 in
    (t.0 ++ part, t.1 ∙ ap (λ y. t.0 ++ y) p.1 ∙ sym (append_assoc t.0 part rest), (t.0, subst (SpellsNumber t.0) (sym p.0) t.2, refl))

binary_given : (front rest part : List ℕ) → SpellsBinary front part → binary_at (front ++ rest) ≡ Ok (part, rest)
binary_given front rest part s = rw (s.2, append_assoc s.0 part rest, number_given s.0 (part ++ rest) (length part) s.1) (bytes_given part rest)

pub binaries : ReadsBy SpellsBinary binary_at
binaries = record { spelled = binary_spelled; given = binary_given }

kind_small : (kind : ℕ) → is_kind kind ≡ true → kind < 16
kind_small kind h = let p : kind ≤ 12 = leb-true kind 12 (and_parts (nat_le 1 kind) (nat_le kind 12) h).1 in omega arith

kind_positive : (kind : ℕ) → is_kind kind ≡ true → 0 < kind
kind_positive kind h = let p : 1 ≤ kind = leb-true 1 kind (and_parts (nat_le 1 kind) (nat_le kind 12) h).0 in omega arith

-- a byte is 16 times its upper half and its lower half
halves : (b : ℕ) → b ≡ 16 * (b / 16) + b % 16
halves b = sym (div-add-mod b 16)

turned : (b step kind : ℕ) → b ≡ 16 * step + kind → b ≡ step * 16 + kind
turned b step kind e = omega arith

lower_half : (b step kind : ℕ) → kind < 16 → b ≡ 16 * step + kind → b % 16 ≡ kind
lower_half b step kind h e = rw (turned b step kind e) (mod-mul-add step 16 kind h)

upper_half : (b step kind : ℕ) → kind < 16 → b ≡ 16 * step + kind → b / 16 ≡ step
upper_half b step kind h e = rw (turned b step kind e) (div-mul-add step 16 kind h)

id_spelled : (bytes rest : List ℕ) (id : ℤ) → id_at bytes ≡ Ok (id, rest) → IsTrue (is_id id) × Spelled SpellsWhole bytes id rest
id_spelled bytes rest id h =
    let x = bound (whole_at bytes) _ (id, rest) h in
    elim (choice (is_id x.0.0) (ok (x.0.0, x.0.1)) _ (ok (id, rest)) x.2) [
      | inl c ↦ (
          let p = ok_is (x.0.0, x.0.1) (id, rest) c.1 in
          (subst (λ y. is_id y.0 ≡ true) p c.0, whole_spelled bytes rest id (x.1 ∙ ap (λ y. ok y) p)))
      | inr c ↦ absurd (bad_is_not_ok bytes (id, rest) c.1)
    ]

id_given : (front rest : List ℕ) (id : ℤ) → IsTrue (is_id id) → SpellsWhole front id → id_at (front ++ rest) ≡ Ok (id, rest)
id_given front rest id fits s = rw (whole_given front rest id s, fits) refl

-- what a header means and what is behind it, from an equation of both
module _ (last : ℤ) (field : Field) (rest : List ℕ) where
  with_front : (front bytes : List ℕ) (x : Field × List ℕ) → x ≡ (field, rest) → SpellsField last front x.0 → bytes ≡ front ++ x.1 → Spelled (SpellsField last) bytes field rest
  with_front front bytes x e s w = (front, w ∙ ap (λ y. front ++ y.1) e, subst (λ y. SpellsField last front y.0) e s)

field_spelled : (last : ℤ) (bytes rest : List ℕ) (field : Field) → field_at last bytes ≡ Ok (field, rest) → Spelled (SpellsField last) bytes field rest
field_spelled last [] rest field h = absurd (short_is_not_ok (field, rest) h)
field_spelled last (b ∷ bs) rest field h =
    elim (choice (b == 0) _ _ _ h) [
      | inl c ↦ with_front last field rest (b ∷ []) (b ∷ bs) (End, bs) (ok_is _ _ c.1) (eqb-true b 0 c.0, refl) refl
      | inr c ↦ elim (choice (is_kind (b % 16)) _ _ _ c.1) [
        | inl kind ↦ elim (choice (b / 16 == 0) _ _ _ kind.1) [
          | inl full ↦ (
              let x = bound (id_at bs) _ (field, rest) full.1 in
              let t = id_spelled bs x.0.1 x.0.0 x.1 in
              let zero : b / 16 ≡ 0 = eqb-true (b / 16) 0 full.0 in
              let alone : b ≡ b % 16 = omega (arith, halves b) in
              with_front last field rest (b ∷ t.1.0) (b ∷ bs) (Next x.0.0 (b % 16), x.0.1) (ok_is _ _ x.2) (kind.0, t.0, inr (alone, t.1.2)) (ap (λ y. b ∷ y) t.1.1))
          | inr short ↦ elim (choice (is_id (last +ℤ pos (b / 16))) _ _ _ short.1) [
            | inl id ↦ (
                let some : b / 16 ≡ 0 → ⊥ = eqb-false (b / 16) 0 short.0 in
                let positive : 0 < b / 16 = grind arith in
                with_front last field rest (b ∷ []) (b ∷ bs) (Next (last +ℤ pos (b / 16)) (b % 16), bs) (ok_is _ _ id.1) (kind.0, id.0, inl (b / 16, positive, halves b, refl, refl)) refl)
            | inr out ↦ absurd (bad_is_not_ok (b ∷ bs) (field, rest) out.1)
          ]
        ]
        | inr other ↦ absurd (bad_is_not_ok (b ∷ bs) (field, rest) other.1)
      ]
    ]

short_given : (last : ℤ) (b step kind : ℕ) (id : ℤ) (rest : List ℕ) → is_kind kind ≡ true → is_id id ≡ true → 0 < step → b ≡ 16 * step + kind → id ≡ last +ℤ pos step
    → field_at last (b ∷ rest) ≡ Ok (Next id kind, rest)
short_given last b step kind id rest known fits positive e is =
    let some : (b ≡ 0 → ⊥) = λ z. absurd (omega (arith, kind_positive kind known)) in
    let above : b / 16 ≡ step = upper_half b step kind (kind_small kind known) e in
    let below : b % 16 ≡ kind = lower_half b step kind (kind_small kind known) e in
    let steps : (step ≡ 0 → ⊥) = λ z. absurd (omega arith) in
    rw (ne_eqb b 0 some, above, below, known, ne_eqb step 0 steps, ← is, fits) refl

full_given : (last : ℤ) (kind : ℕ) (id : ℤ) (front rest : List ℕ) → is_kind kind ≡ true → is_id id ≡ true → SpellsWhole front id → field_at last (kind ∷ (front ++ rest)) ≡ Ok (Next id kind, rest)
full_given last kind id front rest known fits s =
    let e : kind ≡ 16 * 0 + kind = omega arith in
    let some : (kind ≡ 0 → ⊥) = λ z. absurd (omega (arith, kind_positive kind known)) in
    let above : kind / 16 ≡ 0 = upper_half kind 0 kind (kind_small kind known) e in
    let below : kind % 16 ≡ kind = lower_half kind 0 kind (kind_small kind known) e in
    rw (ne_eqb kind 0 some, above, below, known, id_given front rest id fits s) refl

field_given : (last : ℤ) (front rest : List ℕ) (field : Field) → SpellsField last front field → field_at last (front ++ rest) ≡ Ok (field, rest)
field_given last [] rest field s = absurd s
field_given last (b ∷ bs) rest End s = rw (s.0, s.1) refl
field_given last (b ∷ bs) rest (Next id kind) s =
    elim s.2 [
      | inl c ↦ rw c.4 (short_given last b c.0 kind id rest s.0 s.1 c.1 c.2 c.3)
      | inr c ↦ rw c.0 (full_given last kind id bs rest s.0 s.1 c.1)
    ]

pub fields : (last : ℤ) → ReadsBy (SpellsField last) (field_at last)
fields last = record { spelled = field_spelled last; given = field_given last }

pub count_spelled : (bytes rest : List ℕ) (n : ℕ) → count_at bytes ≡ Ok (n, rest) → (n < 2 ^ 32) × Spelled SpellsNumber bytes n rest
count_spelled bytes rest n h =
    let x = bound (number_at bytes) _ (n, rest) h in
    elim (choice (nat_lt x.0.0 (2 ^ 32)) (ok (x.0.0, x.0.1)) _ (ok (n, rest)) x.2) [
      | inl c ↦ (
          let p = ok_is (x.0.0, x.0.1) (n, rest) c.1 in
          let small : x.0.0 < 2 ^ 32 = ltb-true x.0.0 (2 ^ 32) c.0 in
          let same : x.0.0 ≡ n = ap (λ y. y.0) p in
          (subst (λ y. y < 2 ^ 32) same small, number_spelled bytes rest n (x.1 ∙ ap (λ y. ok y) p)))
      | inr c ↦ absurd (bad_is_not_ok bytes (n, rest) c.1)
    ]

pub count_given : (front rest : List ℕ) (n : ℕ) → n < 2 ^ 32 → SpellsNumber front n → count_at (front ++ rest) ≡ Ok (n, rest)
count_given front rest n small s = rw (number_given front rest n s, lt-ltb n (2 ^ 32) small) refl

module _ (list : ListHead) (rest : List ℕ) where
  list_front : (front bytes : List ℕ) (x : ListHead × List ℕ) → x ≡ (list, rest) → SpellsList front x.0 → bytes ≡ front ++ x.1 → Spelled SpellsList bytes list rest
  list_front front bytes x e s w = (front, w ∙ ap (λ y. front ++ y.1) e, subst (λ y. SpellsList front y.0) e s)

list_spelled : (bytes rest : List ℕ) (list : ListHead) → list_at bytes ≡ Ok (list, rest) → Spelled SpellsList bytes list rest
list_spelled [] rest list h = absurd (short_is_not_ok (list, rest) h)
list_spelled (b ∷ bs) rest list h =
    elim (choice (is_kind (b % 16) || b == 0) _ _ _ h) [
      | inl kind ↦ elim (choice (nat_lt (b / 16) 15) _ _ _ kind.1) [
        | inl few ↦ list_front list rest (b ∷ []) (b ∷ bs) (head (b / 16) (b % 16), bs) (ok_is _ _ few.1) (kind.0, inl (ltb-true (b / 16) 15 few.0, halves b, refl)) refl
        | inr many ↦ (
            let x = bound (count_at bs) _ (list, rest) many.1 in
            let t = count_spelled bs x.0.1 x.0.0 x.1 in
            let great : 15 ≤ b / 16 = ltb-false (b / 16) 15 many.0 in
            let far : 240 ≤ b = omega (arith, halves b) in
            list_front list rest (b ∷ t.1.0) (b ∷ bs) (head x.0.0 (b % 16), x.0.1) (ok_is _ _ x.2) (kind.0, inr (far, refl, t.0, t.1.2)) (ap (λ y. b ∷ y) t.1.1))
      ]
      | inr other ↦ absurd (bad_is_not_ok (b ∷ bs) (list, rest) other.1)
    ]

-- the lower half of a byte that names a kind, or is 0
named_small : (b count kind : ℕ) → (is_kind kind || b == 0) ≡ true → b ≡ 16 * count + kind → kind < 16
named_small b count kind known e =
    elim (or_cases (is_kind kind) (b == 0) known) [
      | inl named ↦ kind_small kind named
      | inr none ↦ (let zero : b ≡ 0 = eqb-true b 0 none in omega arith)
    ]

few_given : (b count kind : ℕ) (rest : List ℕ) → (is_kind kind || b == 0) ≡ true → count < 15 → b ≡ 16 * count + kind → list_at (b ∷ rest) ≡ Ok (head count kind, rest)
few_given b count kind rest known few e =
    let small = named_small b count kind known e in
    let above : b / 16 ≡ count = upper_half b count kind small e in
    let below : b % 16 ≡ kind = lower_half b count kind small e in
    rw (above, below, known, lt-ltb count 15 few) refl

many_given : (b count kind : ℕ) (front rest : List ℕ) → (is_kind kind || b == 0) ≡ true → 240 ≤ b → kind ≡ b % 16 → count < 2 ^ 32 → SpellsNumber front count
    → list_at (b ∷ (front ++ rest)) ≡ Ok (head count kind, rest)
many_given b count kind front rest known far e small s =
    let low : b % 16 < 16 = mod-lt b (omega arith) in
    let above : 15 ≤ b / 16 = omega (arith, halves b) in
    rw (← e, known, le-ltb (b / 16) 15 above, count_given front rest count small s) refl

list_given : (front rest : List ℕ) (list : ListHead) → SpellsList front list → list_at (front ++ rest) ≡ Ok (list, rest)
list_given [] rest list s = absurd s
list_given (b ∷ bs) rest list s =
    elim s.1 [
      | inl c ↦ rw c.2 (few_given b list.count list.kind rest s.0 c.0 c.1)
      | inr c ↦ many_given b list.count list.kind bs rest s.0 c.0 c.1 c.2 c.3
    ]

pub lists : ReadsBy SpellsList list_at
lists = record { spelled = list_spelled; given = list_given }
