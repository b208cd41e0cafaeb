-- What is written is a spelling.
use Rattle.std.proofs.Common.{◌≡◌, ℕ, ◌+◌, ◌*◌, ◌<◌, ◌≤◌, ◌%◌, ◌^◌, Bool, true, false, cond, nat_lt, nat_le, ◌==◌, IsTrue, ℤ, pos, negsuc, ◌+ℤ◌, ◌-ℤ◌, List, length, ◌⊎◌, inl, inr, refl, sym, ap, ◌∙◌, arith, FitsSigned, w64}
use Rattle.std.proofs.Math.IntN.{+ℤ_comm, -ℤ-+ℤ_cancel}
use Rattle.std.proofs.lemmas.Nat.{mod-mul-add, div-mul-add}
use Rattle.std.proofs.lemmas.Bool.{and_parts, or_left, leb-true, eqb-false, ltb-true}
use Rattle.dk_grammar.specs.Varint.{varint_bytes}
use Rattle.dk_grammar.specs.Zigzag.{zigzag_of, zigzag}
use Rattle.dk_grammar.specs.Thrift.{head, is_id, is_kind}
use Rattle.dk_grammar.specs.Grammar.{SpellsNumber, SpellsWhole, SpellsBinary, SpellsField, SpellsList}
use Rattle.dk_grammar.specs.Spelling.{whole_bytes, binary_bytes, short_step, field_bytes, list_bytes, end_bytes}
use Rattle.dk_grammar.specs.declared.thrift.Field.TheVariants.{End, Next}
use Rattle.dk_grammar.proofs.Varints.{written_is_varint}

pub number_written : (n : ℕ) → n < 2 ^ 64 → SpellsNumber (varint_bytes n) n
number_written n h = (written_is_varint n, h)

even : (n : ℕ) → zigzag_of (2 * n) ≡ pos n
even n = let m : 2 * n ≡ n * 2 + 0 = omega arith in rw (m, mod-mul-add n 2 0 (omega arith), div-mul-add n 2 0 (omega arith)) refl

odd : (n : ℕ) → zigzag_of (2 * n + 1) ≡ negsuc n
odd n = let m : 2 * n + 1 ≡ n * 2 + 1 = omega arith in rw (m, mod-mul-add n 2 1 (omega arith), div-mul-add n 2 1 (omega arith)) refl

pub zigzag_back : (z : ℤ) → zigzag_of (zigzag z) ≡ z
zigzag_back (pos n) = even n
zigzag_back (negsuc n) = odd n

zigzag_fits : (z : ℤ) → FitsSigned w64 z → zigzag z < 2 ^ 64
zigzag_fits (pos n) h = let s : n < 2 ^ 63 = h.sfits in omega arith
zigzag_fits (negsuc n) h = let s : n < 2 ^ 63 = h.sfits in omega arith

pub whole_written : (z : ℤ) → FitsSigned w64 z → SpellsWhole (whole_bytes z) z
whole_written z h = (zigzag z, number_written (zigzag z) (zigzag_fits z h), sym (zigzag_back z))

pub binary_written : (part : List ℕ) → length part < 2 ^ 64 → SpellsBinary (binary_bytes part) part
binary_written part h = (varint_bytes (length part), number_written (length part) h, refl)

far_below : (n : ℕ) → n ≤ 32767 → n < 2 ^ 63
far_below n h = omega arith

-- an id fits into a whole number
id_is_whole : (id : ℤ) → is_id id ≡ true → FitsSigned w64 id
id_is_whole (pos n) h = record { sfits = far_below n (leb-true n 32767 h) }
id_is_whole (negsuc n) h = record { sfits = far_below n (leb-true n 32767 (and_parts _ _ h).0) }

one_step : (last id : ℤ) (step : ℕ) → id -ℤ last ≡ pos step → id ≡ last +ℤ pos step
one_step last id step e = sym (-ℤ-+ℤ_cancel id last) ∙ ap (λ d. d +ℤ last) e ∙ +ℤ_comm (pos step) last

-- a step that a header has room for is the step from one id to the other
step_is : (d : ℤ) → (short_step d ≡ 0 → ⊥) → d ≡ pos (short_step d)
step_is (pos n) h = step_within n (nat_le n 15) h where
  step_within : (n : ℕ) (b : Bool) → (cond b n 0 ≡ 0 → ⊥) → pos n ≡ pos (cond b n 0)
  step_within n true h = refl
  step_within n false h = absurd (h refl)
step_is (negsuc n) h = absurd (h refl)

positive : (n : ℕ) → (n ≡ 0 → ⊥) → 0 < n
positive n h = grind arith

decided : (b : Bool) → (b ≡ true) ⊎ (b ≡ false)
decided true = inl refl
decided false = inr refl

pub field_written : (last id : ℤ) (kind : ℕ) → IsTrue (is_id id) → IsTrue (is_kind kind) → SpellsField last (field_bytes last id kind) (Next id kind)
field_written last id kind fits known =
    elim (decided (short_step (id -ℤ last) == 0)) [
      | inl far ↦ rw far (known, fits, inr (refl, whole_written id (id_is_whole id fits)))
      | inr near ↦ (
          let some = eqb-false (short_step (id -ℤ last)) 0 near in
          rw near (known, fits, inl (short_step (id -ℤ last), positive (short_step (id -ℤ last)) some, refl, one_step last id (short_step (id -ℤ last)) (step_is (id -ℤ last) some), refl)))
    ]

pub end_written : (last : ℤ) → SpellsField last end_bytes End
end_written last = (refl, refl)

byte_of_many : (kind : ℕ) → kind < 16 → kind ≡ (240 + kind) % 16
byte_of_many kind h = let m : 240 + kind ≡ 15 * 16 + kind = refl in sym (rw m (mod-mul-add 15 16 kind h))

kind_small : (kind : ℕ) → is_kind kind ≡ true → kind < 16
kind_small kind h = let p : kind ≤ 12 = leb-true kind 12 (and_parts (nat_le 1 kind) (nat_le kind 12) h).1 in omega arith

pub list_written : (count kind : ℕ) → count < 2 ^ 32 → IsTrue (is_kind kind) → SpellsList (list_bytes count kind) (head count kind)
list_written count kind small known =
    elim (decided (nat_lt count 15)) [
      | inl few ↦ rw few (or_left (is_kind kind) _ known, inl (ltb-true count 15 few, refl, refl))
      | inr many ↦ rw many (or_left (is_kind kind) _ known, inr (omega arith, byte_of_many kind (kind_small kind known), small, number_written count (omega arith)))
    ]
