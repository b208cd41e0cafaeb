-- The fields of a struct are read by their grammar.
use Rattle.std.proofs.Common.{◌≡◌, ℕ, zero, suc, ◌+◌, ◌<◌, ◌==◌, ◌&&◌, false, ℤ, pos, Option, Some, None, option_map, List, [], ◌∷◌, ◌++◌, length, Ok, inl, inr, refl, sym, ap, subst, ◌∙◌, arith, append_assoc}
use Rattle.std.proofs.lemmas.List.{length-append}
use Rattle.dk_grammar.specs.Thrift.{◌>>=◌, field_at, whole_at}
use Rattle.dk_grammar.specs.Passed.{passed_at}
use Rattle.dk_grammar.specs.Grammar.{ReadsBy, Spelled, SpellsField}
use Rattle.dk_grammar.specs.declared.thrift.Field.{Field}
use Rattle.dk_grammar.specs.declared.thrift.Field.TheVariants.{End, Next}
use Rattle.dk_grammar.proofs.Fronts.{choice, bound, ok_is}
use Rattle.dk_grammar.proofs.Spellings.{fields, wholes, short_is_not_ok}
use Rattle.dk_grammar.proofs.NestedSpellings.{values}
use Rattle.dk_grammar.specs.Structs.{FieldValues, Meaning, under, value_then_fields, fields_from, struct_at, is_whole, number_meaning, SpellsFields, SpellsStruct, SpellsNumberField}
use Rattle.dk_grammar.specs.PageHeaders.{Part, number, inner, is_inner, part_meaning, SpellsPart, SpellsHeader}

joined : (bytes front middle more rest : List ℕ) → bytes ≡ front ++ middle → middle ≡ more ++ rest → bytes ≡ (front ++ more) ++ rest
joined bytes front middle more rest e f = e ∙ ap (λ x. front ++ x) f ∙ sym (append_assoc front more rest)

header_long : (last : ℤ) (header : List ℕ) (field : Field) → SpellsField last header field → 0 < length header
header_long last [] field s = absurd s
header_long last (b ∷ bs) field s = omega arith

-- each field takes a byte at least, and so does the end
pub fields_long : {V : Type 0} (spells : ℤ → ℕ → List ℕ → Option V → Type 0) (n : ℕ) (last : ℤ) (front : List ℕ) (more : FieldValues V) → SpellsFields spells n last front more → n < length front
fields_long spells zero last front more s = header_long last front End s.0
fields_long spells (suc n) last front more s =
    let behind = s.1.1.1.1.1 in
    let header = behind.0 in
    let behind_header = behind.1.0 in
    let nested = behind.1.3 in
    let part = nested.0 in
    let rest = nested.1.0 in
    let some : 0 < length header = header_long last header (Next s.0 s.1.0) behind.1.2 in
    let few : n < length rest = fields_long spells n s.0 rest s.1.1.1.0 nested.1.3 in
    let outer : length (header ++ behind_header) ≡ length header + length behind_header = length-append header behind_header in
    let within : length (part ++ rest) ≡ length part + length rest = length-append part rest in
    let whole : length front ≡ length (header ++ behind_header) = ap length behind.1.1 in
    let inside : length behind_header ≡ length (part ++ rest) = ap length nested.1.1 in
    omega arith

module _ {V : Type 0} (spells : ℤ → ℕ → List ℕ → Option V → Type 0) (meaning : Meaning V) (by : (id : ℤ) (kind : ℕ) → ReadsBy (spells id kind) (meaning id kind)) where
  -- the fields behind a header, where those behind it are known to be spelled
  field_spelled : (most : ℕ) (last : ℤ) (bytes rest : List ℕ) (found : FieldValues V) (field : Field) (after : List ℕ)
      → ((id : ℤ) (more left : List ℕ) (others : FieldValues V) → fields_from meaning most id more ≡ Ok (others, left) → (n : ℕ) × Spelled (SpellsFields spells n id) more others left)
      → Spelled (SpellsField last) bytes field after → value_then_fields meaning (fields_from meaning most) field after ≡ Ok (found, rest) → (n : ℕ) × Spelled (SpellsFields spells n last) bytes found rest
  field_spelled most last bytes rest found End after go t e =
      let p = ok_is ([], after) (found, rest) e in
      (0, (t.0, t.1 ∙ ap (λ x. t.0 ++ x) (ap (λ x. x.1) p), (t.2, sym (ap (λ x. x.0) p))))
  field_spelled most last bytes rest found (Next id kind) after go t e =
      let y = bound (meaning id kind after) (λ x. fields_from meaning most id x.1 >>= λ more. Ok (under id x.0 more.0, more.1)) (found, rest) e in
      let z = bound (fields_from meaning most id y.0.1) (λ more. Ok (under id y.0.0 more.0, more.1)) (found, rest) y.2 in
      let p = ok_is (under id y.0.0 z.0.0, z.0.1) (found, rest) z.2 in
      let v = (by id kind).spelled after y.0.1 y.0.0 y.1 in
      let u = go id y.0.1 z.0.1 z.0.0 z.1 in (
        suc u.0,
        (
          t.0 ++ (v.0 ++ u.1.0),
          joined bytes t.0 after (v.0 ++ u.1.0) rest t.1 (joined after v.0 y.0.1 u.1.0 rest v.1 (u.1.1 ∙ ap (λ x. u.1.0 ++ x) (ap (λ x. x.1) p))),
          (id, (kind, (y.0.0, (z.0.0, (sym (ap (λ x. x.0) p), (t.0, (v.0 ++ u.1.0, refl, t.2, (v.0, (u.1.0, refl, v.2, u.1.2))))))))),
        ),
      )

  fields_spelled : (most : ℕ) (last : ℤ) (bytes rest : List ℕ) (found : FieldValues V) → fields_from meaning most last bytes ≡ Ok (found, rest) → (n : ℕ) × Spelled (SpellsFields spells n last) bytes found rest
  fields_spelled zero last bytes rest found h = absurd (short_is_not_ok (found, rest) h)
  fields_spelled (suc most) last bytes rest found h =
      let x = bound (field_at last bytes) (λ x. value_then_fields meaning (fields_from meaning most) x.0 x.1) (found, rest) h in
      field_spelled most last bytes rest found x.0.0 x.0.1 (λ id more left others e. fields_spelled most id more left others e) ((fields last).spelled bytes x.0.1 x.0.0 x.1) x.2

  fields_given : (n most : ℕ) (last : ℤ) (front rest : List ℕ) (found : FieldValues V) → n < most → SpellsFields spells n last front found → fields_from meaning most last (front ++ rest) ≡ Ok (found, rest)
  fields_given n zero last front rest found few s = absurd (omega arith)
  fields_given zero (suc most) last front rest found few s = rw ((fields last).given front rest End s.0, s.1) refl
  fields_given (suc n) (suc most) last front rest found few s =
      let id = s.0 in
      let kind = s.1.0 in
      let value = s.1.1.0 in
      let more = s.1.1.1.0 in
      let behind = s.1.1.1.1.1 in
      let nested = behind.1.3 in
      rw (
        s.1.1.1.1.0,
        behind.1.1,
        append_assoc behind.0 behind.1.0 rest,
        (fields last).given behind.0 (behind.1.0 ++ rest) (Next id kind) behind.1.2,
        nested.1.1,
        append_assoc nested.0 nested.1.0 rest,
        (by id kind).given nested.0 (nested.1.0 ++ rest) value nested.1.2,
        fields_given n most id nested.1.0 rest more (omega arith) nested.1.3,
      )
      refl

  struct_given : (front rest : List ℕ) (found : FieldValues V) → SpellsStruct spells front found → struct_at meaning (front ++ rest) ≡ Ok (found, rest)
  struct_given front rest found s =
      let long : s.0 < length front = fields_long spells s.0 (pos 0) front found s.1 in
      let whole : length (front ++ rest) ≡ length front + length rest = length-append front rest in
      fields_given s.0 (length (front ++ rest)) (pos 0) front rest found (omega arith) s.1

  pub structs : ReadsBy (SpellsStruct spells) (struct_at meaning)
  structs = record {
    spelled = λ bytes rest found h. let t = fields_spelled (length bytes) (pos 0) bytes rest found h in (t.1.0, t.1.1, (t.0, t.1.2));
    given = struct_given;
  }

number_spelled : (id : ℤ) (kind : ℕ) (bytes rest : List ℕ) (value : Option ℤ) → number_meaning id kind bytes ≡ Ok (value, rest) → Spelled (SpellsNumberField id kind) bytes value rest
number_spelled id kind bytes rest value h =
    elim (choice (is_whole kind) _ _ _ h) [
      | inl c ↦ (
          let x = bound (whole_at bytes) (λ x. Ok (Some x.0, x.1)) (value, rest) c.1 in
          let t = wholes.spelled bytes x.0.1 x.0.0 x.1 in
          subst (λ y. Spelled (SpellsNumberField id kind) bytes y.0 y.1) (ok_is (Some x.0.0, x.0.1) (value, rest) x.2) (t.0, t.1, (c.0, t.2)))
      | inr c ↦ (
          let x = bound (passed_at kind bytes) (λ left. Ok (None, left)) (value, rest) c.1 in
          let t = (values kind).spelled bytes x.0 x.1 in
          subst (λ y. Spelled (SpellsNumberField id kind) bytes y.0 y.1) (ok_is (None, x.0) (value, rest) x.2) (t.0, t.1, (c.0, t.2)))
    ]

number_given : (id : ℤ) (kind : ℕ) (front rest : List ℕ) (value : Option ℤ) → SpellsNumberField id kind front value → number_meaning id kind (front ++ rest) ≡ Ok (value, rest)
number_given id kind front rest (Some z) s = rw (s.0, wholes.given front rest z s.1) refl
number_given id kind front rest None s = rw (s.0, (values kind).taken front rest s.1) refl

pub number_fields : (id : ℤ) (kind : ℕ) → ReadsBy (SpellsNumberField id kind) (number_meaning id kind)
number_fields id kind = record { spelled = number_spelled id kind; given = number_given id kind }

as_part : (id : ℤ) (kind : ℕ) (front : List ℕ) (value : Option ℤ) → (is_inner id && kind == 12) ≡ false → SpellsNumberField id kind front value → SpellsPart id kind front (option_map number value)
as_part id kind front (Some z) f s = (f, s)
as_part id kind front None f s = (f, s)

part_spelled : (id : ℤ) (kind : ℕ) (bytes rest : List ℕ) (part : Option Part) → part_meaning id kind bytes ≡ Ok (part, rest) → Spelled (SpellsPart id kind) bytes part rest
part_spelled id kind bytes rest part h =
    elim (choice (is_inner id && kind == 12) _ _ _ h) [
      | inl c ↦ (
          let x = bound (struct_at number_meaning bytes) (λ x. Ok (Some (inner x.0), x.1)) (part, rest) c.1 in
          let t = (structs SpellsNumberField number_meaning number_fields).spelled bytes x.0.1 x.0.0 x.1 in
          subst (λ y. Spelled (SpellsPart id kind) bytes y.0 y.1) (ok_is (Some (inner x.0.0), x.0.1) (part, rest) x.2) (t.0, t.1, (c.0, t.2)))
      | inr c ↦ (
          let x = bound (number_meaning id kind bytes) (λ x. Ok (option_map number x.0, x.1)) (part, rest) c.1 in
          let t = number_spelled id kind bytes x.0.1 x.0.0 x.1 in
          subst (λ y. Spelled (SpellsPart id kind) bytes y.0 y.1) (ok_is (option_map number x.0.0, x.0.1) (part, rest) x.2) (t.0, t.1, as_part id kind t.0 x.0.0 c.0 t.2))
    ]

part_given : (id : ℤ) (kind : ℕ) (front rest : List ℕ) (part : Option Part) → SpellsPart id kind front part → part_meaning id kind (front ++ rest) ≡ Ok (part, rest)
part_given id kind front rest (Some (inner numbers)) s = rw (s.0, (structs SpellsNumberField number_meaning number_fields).given front rest numbers s.1) refl
part_given id kind front rest (Some (number z)) s = rw (s.0, number_given id kind front rest (Some z) s.1) refl
part_given id kind front rest None s = rw (s.0, number_given id kind front rest None s.1) refl

pub headers : ReadsBy SpellsHeader (struct_at part_meaning)
headers = structs SpellsPart part_meaning (λ id kind. record { spelled = part_spelled id kind; given = part_given id kind })
