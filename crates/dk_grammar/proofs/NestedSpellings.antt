-- Passing over goes by the grammar.
use Rattle.std.proofs.Common.{◌≡◌, ℕ, zero, suc, ◌+◌, ◌<◌, ◌/◌, ◌%◌, ◌^◌, ◌&&◌, ℤ, pos, List, [], ◌∷◌, ◌++◌, length, Ok, inl, inr, refl, sym, ap, ◌∙◌, arith, append_assoc}
use Rattle.std.proofs.lemmas.Bool.{and_parts, and_from}
use Rattle.std.proofs.lemmas.List.{length-append}
use Rattle.dk_grammar.specs.Thrift.{Front, number_at, bytes_at, binary_at, count_at, list_at, field_at, is_kind}
use Rattle.dk_grammar.specs.Grammar.{SpellsNumber, SpellsField, SpellsList, Spelled}
use Rattle.dk_grammar.specs.Passed.{Rest, rest_of, each, entry_passed, entries_passed, list_passed, map_passed, value_passed, field_passed, fields_passed, struct_passed, too_deep, element_passed, kind_numbered, passed_at}
use Rattle.dk_grammar.specs.Nested.{Behind, Repeats, SpellsElements, SpellsEntries, SpellsMap, SpellsFieldValue, SpellsAnyFields, SpellsAnyStruct, SpellsAnyElement, SpellsValue, Takes, PassesBy}
use Rattle.dk_grammar.specs.declared.thrift.Field.{Field}
use Rattle.dk_grammar.specs.declared.thrift.Field.TheVariants.{End, Next}
use Rattle.dk_grammar.specs.declared.thrift.Kind.{Kind}
use Rattle.dk_grammar.specs.declared.thrift.Kind.TheVariants as kinds
use Rattle.dk_grammar.proofs.Fronts.{choice, bound, ok, ok_is, bad_is_not_ok}
use Rattle.dk_grammar.proofs.Spellings.{numbers, binaries, lists, fields, count_spelled, count_given, bytes_spelled, bytes_given, short_is_not_ok}

abbrev IsSpelled : (List ℕ → Type 0) → (List ℕ → Rest) → Type 0
IsSpelled spells pass = (bytes rest : List ℕ) → pass bytes ≡ Ok rest → Takes spells bytes rest

abbrev IsTaken : (List ℕ → Type 0) → (List ℕ → Rest) → Type 0
IsTaken spells pass = (front rest : List ℕ) → spells front → pass (front ++ rest) ≡ Ok rest

joined : (bytes front middle more rest : List ℕ) → bytes ≡ front ++ middle → middle ≡ more ++ rest → bytes ≡ (front ++ more) ++ rest
joined bytes front middle more rest e f = e ∙ ap (λ x. front ++ x) f ∙ sym (append_assoc front more rest)

-- one spelling behind another is taken in two steps
both : (first second : List ℕ → Type 0) (bytes middle rest : List ℕ) → Takes first bytes middle → Takes second middle rest → Takes (Behind first second) bytes rest
both first second bytes middle rest t u = (t.0 ++ u.0, joined bytes t.0 middle u.0 rest t.1 u.1, (t.0, (u.0, refl, t.2, u.2)))

each_spelled : (spells : List ℕ → Type 0) (pass : List ℕ → Rest) → IsSpelled spells pass → (n : ℕ) → IsSpelled (Repeats spells n) (each pass n)
each_spelled spells pass by zero bytes rest h = ([], ok_is bytes rest h, refl)
each_spelled spells pass by (suc n) bytes rest h =
    let x = bound (pass bytes) (each pass n) rest h in
    both spells (Repeats spells n) bytes x.0 rest (by bytes x.0 x.1) (each_spelled spells pass by n x.0 rest x.2)

each_taken : (spells : List ℕ → Type 0) (pass : List ℕ → Rest) → IsTaken spells pass → (n : ℕ) → IsTaken (Repeats spells n) (each pass n)
each_taken spells pass by zero front rest s = rw s refl
each_taken spells pass by (suc n) front rest s =
    rw (s.1.1, append_assoc s.0 s.1.0 rest, by s.0 (s.1.0 ++ rest) s.1.2) (each_taken spells pass by n s.1.0 rest s.1.3)

module _ (spells : Kind → List ℕ → Type 0) (pass : Kind → List ℕ → Rest) (by : (kind : Kind) → IsSpelled (spells kind) (pass kind)) where
  list_spelled : IsSpelled (SpellsElements spells) (list_passed pass)
  list_spelled bytes rest h =
      let x = bound (list_at bytes) _ rest h in
      let t = both (λ front. SpellsList front x.0.0) (Repeats (spells (kind_numbered x.0.0.kind)) x.0.0.count) bytes x.0.1 rest (lists.spelled bytes x.0.1 x.0.0 x.1)
      (each_spelled (spells (kind_numbered x.0.0.kind)) (pass (kind_numbered x.0.0.kind)) (by (kind_numbered x.0.0.kind)) x.0.0.count x.0.1 rest x.2) in
      (t.0, t.1, (x.0.0, t.2))

  entry_spelled : (key value : Kind) → IsSpelled (Behind (spells key) (spells value)) (entry_passed pass key value)
  entry_spelled key value bytes rest h =
      let x = bound (pass key bytes) (pass value) rest h in
      both (spells key) (spells value) bytes x.0 rest (by key bytes x.0 x.1) (by value x.0 rest x.2)

  entries_spelled : (n : ℕ) → IsSpelled (SpellsEntries spells n) (entries_passed pass n)
  entries_spelled zero bytes rest h = ([], ok_is bytes rest h, refl)
  entries_spelled (suc n) [] rest h = absurd (short_is_not_ok rest h)
  entries_spelled (suc n) (b ∷ bs) rest h =
      elim (choice (is_kind (b / 16) && is_kind (b % 16)) _ _ _ h) [
        | inl c ↦ (
            let known = and_parts (is_kind (b / 16)) (is_kind (b % 16)) c.0 in
            let t = each_spelled (Behind (spells (kind_numbered (b / 16))) (spells (kind_numbered (b % 16)))) (entry_passed pass (kind_numbered (b / 16)) (kind_numbered (b % 16)))
            (entry_spelled (kind_numbered (b / 16)) (kind_numbered (b % 16))) (suc n) bs rest c.1 in
            (b ∷ t.0, ap (λ x. b ∷ x) t.1, (known.0, known.1, t.2)))
        | inr c ↦ absurd (bad_is_not_ok (b ∷ bs) rest c.1)
      ]

  map_spelled : IsSpelled (SpellsMap spells) (map_passed pass)
  map_spelled bytes rest h =
      let x = bound (count_at bytes) _ rest h in
      let n = count_spelled bytes x.0.1 x.0.0 x.1 in
      let t = both (λ front. (x.0.0 < 2 ^ 32) × SpellsNumber front x.0.0) (SpellsEntries spells x.0.0) bytes x.0.1 rest (n.1.0, n.1.1, (n.0, n.1.2)) (entries_spelled x.0.0 x.0.1 rest x.2) in
      (t.0, t.1, (x.0.0, t.2))

  value_spelled : (kind : Kind) → IsSpelled (SpellsFieldValue spells kind) (value_passed pass kind)
  value_spelled kinds.Flag bytes rest h = ([], ok_is bytes rest h, refl)
  value_spelled kinds.Byte bytes rest h = by kinds.Byte bytes rest h
  value_spelled kinds.Whole bytes rest h = by kinds.Whole bytes rest h
  value_spelled kinds.Double bytes rest h = by kinds.Double bytes rest h
  value_spelled kinds.Binary bytes rest h = by kinds.Binary bytes rest h
  value_spelled kinds.List bytes rest h = by kinds.List bytes rest h
  value_spelled kinds.Map bytes rest h = by kinds.Map bytes rest h
  value_spelled kinds.Struct bytes rest h = by kinds.Struct bytes rest h

  -- the fields behind a header, where those behind it are known to be spelled
  field_spelled : (most : ℕ) (last : ℤ) (bytes rest : List ℕ) (field : Field) (after : List ℕ)
      → ((id : ℤ) (more : List ℕ) → fields_passed pass most id more ≡ Ok rest → (n : ℕ) × Takes (SpellsAnyFields spells n id) more rest)
      → Spelled (SpellsField last) bytes field after → field_passed pass (fields_passed pass most) field after ≡ Ok rest → (n : ℕ) × Takes (SpellsAnyFields spells n last) bytes rest
  field_spelled most last bytes rest End after go t e = (0, (t.0, t.1 ∙ ap (λ x. t.0 ++ x) (ok_is after rest e), t.2))
  field_spelled most last bytes rest (Next id kind) after go t e =
      let y = bound (value_passed pass (kind_numbered kind) after) (fields_passed pass most id) rest e in
      let u = go id y.0 y.2 in
      let v = both (λ header. SpellsField last header (Next id kind)) (Behind (SpellsFieldValue spells (kind_numbered kind)) (SpellsAnyFields spells u.0 id)) bytes after rest t
      (both (SpellsFieldValue spells (kind_numbered kind)) (SpellsAnyFields spells u.0 id) after y.0 rest (value_spelled (kind_numbered kind) after y.0 y.1) u.1) in
      (suc u.0, (v.0, v.1, (id, (kind, v.2))))

  fields_spelled : (most : ℕ) (last : ℤ) (bytes rest : List ℕ) → fields_passed pass most last bytes ≡ Ok rest → (n : ℕ) × Takes (SpellsAnyFields spells n last) bytes rest
  fields_spelled zero last bytes rest h = absurd (short_is_not_ok rest h)
  fields_spelled (suc most) last bytes rest h =
      let x = bound (field_at last bytes) _ rest h in
      field_spelled most last bytes rest x.0.0 x.0.1 (λ id more e. fields_spelled most id more rest e) ((fields last).spelled bytes x.0.1 x.0.0 x.1) x.2

  struct_spelled : IsSpelled (SpellsAnyStruct spells) (struct_passed pass)
  struct_spelled bytes rest h = let t = fields_spelled (length bytes) (pos 0) bytes rest h in (t.1.0, t.1.1, (t.0, t.1.2))

rest_of_is : {A : Type 0} (front : Front A) (rest : List ℕ) → rest_of front ≡ Ok rest → (x : A) × (front ≡ Ok (x, rest))
rest_of_is front rest h = let x = bound front _ rest h in (x.0.0, x.1 ∙ ap (λ more. ok (x.0.0, more)) (ok_is x.0.1 rest x.2))

size_spelled : (n : ℕ) → IsSpelled (λ front. length front ≡ n) (λ bytes. rest_of (bytes_at n bytes))
size_spelled n bytes rest h = let x = rest_of_is (bytes_at n bytes) rest h in let p = bytes_spelled n bytes x.0 rest x.1 in (x.0, p.1, p.0)

deep_is_not_ok : (bytes rest : List ℕ) → too_deep bytes ≡ ok rest → ⊥
deep_is_not_ok [] rest h = cc
deep_is_not_ok (b ∷ bs) rest h = cc

element_spelled : (levels : ℕ) (kind : Kind) → IsSpelled (SpellsAnyElement levels kind) (element_passed levels kind)
element_spelled levels kinds.Flag bytes rest h = size_spelled 1 bytes rest h
element_spelled levels kinds.Byte bytes rest h = size_spelled 1 bytes rest h
element_spelled levels kinds.Whole bytes rest h = let x = rest_of_is (number_at bytes) rest h in let t = numbers.spelled bytes rest x.0 x.1 in (t.0, t.1, (x.0, t.2))
element_spelled levels kinds.Double bytes rest h = size_spelled 8 bytes rest h
element_spelled levels kinds.Binary bytes rest h = let x = rest_of_is (binary_at bytes) rest h in let t = binaries.spelled bytes rest x.0 x.1 in (t.0, t.1, (x.0, t.2))
element_spelled zero kinds.List bytes rest h = absurd (deep_is_not_ok bytes rest h)
element_spelled zero kinds.Map bytes rest h = absurd (deep_is_not_ok bytes rest h)
element_spelled zero kinds.Struct bytes rest h = absurd (deep_is_not_ok bytes rest h)
element_spelled (suc levels) kinds.List bytes rest h = list_spelled (SpellsAnyElement levels) (element_passed levels) (element_spelled levels) bytes rest h
element_spelled (suc levels) kinds.Map bytes rest h = map_spelled (SpellsAnyElement levels) (element_passed levels) (element_spelled levels) bytes rest h
element_spelled (suc levels) kinds.Struct bytes rest h = struct_spelled (SpellsAnyElement levels) (element_passed levels) (element_spelled levels) bytes rest h

passed_spelled : (kind : ℕ) → IsSpelled (SpellsValue kind) (passed_at kind)
passed_spelled kind bytes rest h =
    elim (choice (is_kind kind) _ _ _ h) [
      | inl c ↦ (let t = value_spelled (SpellsAnyElement 32) (element_passed 32) (element_spelled 32) (kind_numbered kind) bytes rest c.1 in (t.0, t.1, (c.0, t.2)))
      | inr c ↦ absurd (bad_is_not_ok bytes rest c.1)
    ]

module _ (spells : Kind → List ℕ → Type 0) (pass : Kind → List ℕ → Rest) (by : (kind : Kind) → IsTaken (spells kind) (pass kind)) where
  list_taken : IsTaken (SpellsElements spells) (list_passed pass)
  list_taken front rest s =
      let list = s.0 in
      let head = s.1.0 in
      let more = s.1.1.0 in
      rw (s.1.1.1, append_assoc head more rest, lists.given head (more ++ rest) list s.1.1.2)
      (each_taken (spells (kind_numbered list.kind)) (pass (kind_numbered list.kind)) (by (kind_numbered list.kind)) list.count more rest s.1.1.3)

  entry_taken : (key value : Kind) → IsTaken (Behind (spells key) (spells value)) (entry_passed pass key value)
  entry_taken key value front rest s = rw (s.1.1, append_assoc s.0 s.1.0 rest, by key s.0 (s.1.0 ++ rest) s.1.2) (by value s.1.0 rest s.1.3)

  entries_taken : (n : ℕ) → IsTaken (SpellsEntries spells n) (entries_passed pass n)
  entries_taken zero front rest s = rw s refl
  entries_taken (suc n) [] rest s = absurd s
  entries_taken (suc n) (b ∷ bs) rest s =
      rw (and_from (is_kind (b / 16)) (is_kind (b % 16)) s.0 s.1)
      (each_taken (Behind (spells (kind_numbered (b / 16))) (spells (kind_numbered (b % 16)))) (entry_passed pass (kind_numbered (b / 16)) (kind_numbered (b % 16)))
      (entry_taken (kind_numbered (b / 16)) (kind_numbered (b % 16))) (suc n) bs rest s.2)

  map_taken : IsTaken (SpellsMap spells) (map_passed pass)
  map_taken front rest s =
      let count = s.1.0 in
      let more = s.1.1.0 in
      rw (s.1.1.1, append_assoc count more rest, count_given count (more ++ rest) s.0 s.1.1.2.0 s.1.1.2.1) (entries_taken s.0 more rest s.1.1.3)

  value_taken : (kind : Kind) → IsTaken (SpellsFieldValue spells kind) (value_passed pass kind)
  value_taken kinds.Flag front rest s = rw s refl
  value_taken kinds.Byte front rest s = by kinds.Byte front rest s
  value_taken kinds.Whole front rest s = by kinds.Whole front rest s
  value_taken kinds.Double front rest s = by kinds.Double front rest s
  value_taken kinds.Binary front rest s = by kinds.Binary front rest s
  value_taken kinds.List front rest s = by kinds.List front rest s
  value_taken kinds.Map front rest s = by kinds.Map front rest s
  value_taken kinds.Struct front rest s = by kinds.Struct front rest s

  fields_taken : (n most : ℕ) (last : ℤ) (front rest : List ℕ) → n < most → SpellsAnyFields spells n last front → fields_passed pass most last (front ++ rest) ≡ Ok rest
  fields_taken n zero last front rest few s = absurd (omega arith)
  fields_taken zero (suc most) last front rest few s = rw ((fields last).given front rest End s) refl
  fields_taken (suc n) (suc most) last front rest few s =
      let id = s.0 in
      let kind = s.1.0 in
      let header = s.1.1.0 in
      let behind_header = s.1.1.1.0 in
      let inner = s.1.1.1.3 in
      let value = inner.0 in
      let more = inner.1.0 in
      rw (
        s.1.1.1.1,
        append_assoc header behind_header rest,
        (fields last).given header (behind_header ++ rest) (Next id kind) s.1.1.1.2,
        inner.1.1,
        append_assoc value more rest,
        value_taken (kind_numbered kind) value (more ++ rest) inner.1.2,
      )
      (fields_taken n most id more rest (omega arith) inner.1.3)

-- each field takes a byte at least, and so does the end
fields_long : (spells : Kind → List ℕ → Type 0) (n : ℕ) (last : ℤ) (front : List ℕ) → SpellsAnyFields spells n last front → n < length front
fields_long spells zero last [] s = absurd s
fields_long spells zero last (b ∷ bs) s = omega arith
fields_long spells (suc n) last front s =
    let header = s.1.1.0 in
    let behind_header = s.1.1.1.0 in
    let inner = s.1.1.1.3 in
    let value = inner.0 in
    let more = inner.1.0 in
    let some : 0 < length header = header_long last header (Next s.0 s.1.0) s.1.1.1.2 in
    let rest : n < length more = fields_long spells n s.0 more inner.1.3 in
    let outer : length (header ++ behind_header) ≡ length header + length behind_header = length-append header behind_header in
    let nested : length (value ++ more) ≡ length value + length more = length-append value more in
    let whole : length front ≡ length (header ++ behind_header) = ap length s.1.1.1.1 in
    let inside : length behind_header ≡ length (value ++ more) = ap length inner.1.1 in
    omega arith where
      header_long : (last : ℤ) (header : List ℕ) (field : Field) → SpellsField last header field → 0 < length header
      header_long last [] field s = absurd s
      header_long last (b ∷ bs) field s = omega arith

struct_taken : (spells : Kind → List ℕ → Type 0) (pass : Kind → List ℕ → Rest) → ((kind : Kind) → IsTaken (spells kind) (pass kind)) → IsTaken (SpellsAnyStruct spells) (struct_passed pass)
struct_taken spells pass by front rest s =
    let long : s.0 < length front = fields_long spells s.0 (pos 0) front s.1 in
    let whole : length (front ++ rest) ≡ length front + length rest = length-append front rest in
    fields_taken spells pass by s.0 (length (front ++ rest)) (pos 0) front rest (omega arith) s.1

rest_of_given : {A : Type 0} (front : Front A) (x : A) (rest : List ℕ) → front ≡ Ok (x, rest) → rest_of front ≡ Ok rest
rest_of_given front x rest e = rw e refl

size_taken : (n : ℕ) → IsTaken (λ front. length front ≡ n) (λ bytes. rest_of (bytes_at n bytes))
size_taken n front rest s = rest_of_given (bytes_at n (front ++ rest)) front rest (rw (← s) (bytes_given front rest))

element_taken : (levels : ℕ) (kind : Kind) → IsTaken (SpellsAnyElement levels kind) (element_passed levels kind)
element_taken levels kinds.Flag front rest s = size_taken 1 front rest s
element_taken levels kinds.Byte front rest s = size_taken 1 front rest s
element_taken levels kinds.Whole front rest s = rest_of_given (number_at (front ++ rest)) s.0 rest (numbers.given front rest s.0 s.1)
element_taken levels kinds.Double front rest s = size_taken 8 front rest s
element_taken levels kinds.Binary front rest s = rest_of_given (binary_at (front ++ rest)) s.0 rest (binaries.given front rest s.0 s.1)
element_taken zero kinds.List front rest s = absurd s
element_taken zero kinds.Map front rest s = absurd s
element_taken zero kinds.Struct front rest s = absurd s
element_taken (suc levels) kinds.List front rest s = list_taken (SpellsAnyElement levels) (element_passed levels) (element_taken levels) front rest s
element_taken (suc levels) kinds.Map front rest s = map_taken (SpellsAnyElement levels) (element_passed levels) (element_taken levels) front rest s
element_taken (suc levels) kinds.Struct front rest s = struct_taken (SpellsAnyElement levels) (element_passed levels) (element_taken levels) front rest s

pub values : (kind : ℕ) → PassesBy (SpellsValue kind) (passed_at kind)
values kind = record {
  spelled = passed_spelled kind;
  taken = λ front rest s. rw s.0 (value_taken (SpellsAnyElement 32) (element_passed 32) (element_taken 32) (kind_numbered kind) front rest s.1);
}
