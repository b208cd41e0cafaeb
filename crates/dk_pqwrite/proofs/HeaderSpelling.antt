-- Headers that are written are spelled, and short.
use Rattle.std.proofs.Common.{rules, ◌≡◌, ℕ, suc, ◌+◌, ◌^◌, ◌<◌, ◌≤◌, IsTrue, IsFalse, Some, ℤ, pos, List, [], ◌∷◌, ◌++◌, length, refl, ap, ◌∙◌, append_assoc, arith, FitsSigned, w64}
use Rattle.std.proofs.lemmas.List.{length-append}
use Rattle.dk_grammar.specs.Spelling.{field_bytes, whole_bytes, end_bytes}
use Rattle.dk_grammar.specs.Thrift.{is_id}
use Rattle.dk_grammar.specs.Structs.{FieldValues, SpellsFields, SpellsNumberField, SpellsStruct}
use Rattle.dk_grammar.specs.PageHeaders.{Part, number, inner, is_inner, SpellsPart, SpellsHeader}
use Rattle.dk_grammar.proofs.WrittenSpellings.{whole_written, field_written, end_written}
use Rattle.dk_thrift.specs.Writing.{WrittenSoFar}
use Rattle.dk_pqwrite.specs.HeaderBytes.{page_parts, data_numbers, dictionary_numbers, with_number_field, number_bytes, begun_bytes}
use Rattle.dk_pqwrite.proofs.NumberSizes.{whole_32}

-- a number below 2 to the 31 takes at most five bytes
whole_short : (n : ℕ) → n < 2 ^ 31 → length (whole_bytes (pos n)) ≤ 5
whole_short n small = whole_32 n (omega arith)

-- ---- the fields of a header

abbrev Fits64 : ℤ → Type 0
Fits64 z = FitsSigned w64 z

fits_64 : (n : ℕ) → n < 2 ^ 31 → Fits64 (pos n)
fits_64 n small = record { sfits = omega arith }

-- a number in front of other fields of an inner header
inner_number : (n : ℕ) (last id z : ℤ) (rest : List ℕ) (more : FieldValues ℤ) → IsTrue (is_id id) → Fits64 z → SpellsFields SpellsNumberField n id rest more
    → SpellsFields SpellsNumberField (suc n) last (field_bytes last id 5 ++ (whole_bytes z ++ rest)) ((id, z) ∷ more)
inner_number n last id z rest more fits small behind =
    (id, (5, (Some z, (more, (refl, (field_bytes last id 5, (whole_bytes z ++ rest, refl, field_written last id 5 fits refl, (whole_bytes z, (rest, refl, (refl, whole_written z small), behind)))))))))

-- a number in front of other fields of a header
own_number : (n : ℕ) (last id z : ℤ) (rest : List ℕ) (more : FieldValues Part) → IsTrue (is_id id) → IsFalse (is_inner id) → Fits64 z → SpellsFields SpellsPart n id rest more
    → SpellsFields SpellsPart (suc n) last (field_bytes last id 5 ++ (whole_bytes z ++ rest)) ((id, number z) ∷ more)
own_number n last id z rest more fits own small behind =
    (id, (5, (Some (number z), (more, (refl, (field_bytes last id 5, (whole_bytes z ++ rest, refl, field_written last id 5 fits refl, (whole_bytes z, (rest, refl, (rw own refl, (refl, whole_written z small)), behind)))))))))

-- an inner header, and the end
last_inner : (last id : ℤ) (bytes : List ℕ) (numbers : FieldValues ℤ) → IsTrue (is_id id) → IsTrue (is_inner id) → SpellsStruct SpellsNumberField bytes numbers
    → SpellsFields SpellsPart 1 last (field_bytes last id 12 ++ (bytes ++ end_bytes)) ((id, inner numbers) ∷ [])
last_inner last id bytes numbers fits known spelled =
    (id, (12, (Some (inner numbers), ([], (refl, (field_bytes last id 12, (bytes ++ end_bytes, refl, field_written last id 12 fits refl, (bytes, (end_bytes, refl, (rw known refl, spelled), (end_written id, refl))))))))))

pub page_spelled : (type size : ℕ) (id : ℤ) (bytes : List ℕ) (numbers : FieldValues ℤ) → type < 2 ^ 31 → size < 2 ^ 31 → IsTrue (is_id id) → IsTrue (is_inner id)
    → SpellsStruct SpellsNumberField bytes numbers → SpellsHeader (begun_bytes (pos type) size id ++ (bytes ++ end_bytes)) (page_parts type size id numbers)
page_spelled type size id bytes numbers small_type small_size fits known spelled =
    let whole : begun_bytes (pos type) size id ++ (bytes ++ end_bytes)
    ≡ field_bytes (pos 0) (pos 1) 5 ++ (whole_bytes (pos type) ++ (field_bytes (pos 1) (pos 2) 5 ++ (whole_bytes (pos size)
    ++ (field_bytes (pos 2) (pos 3) 5 ++ (whole_bytes (pos size) ++ (field_bytes (pos 3) id 12 ++ (bytes ++ end_bytes))))))) = search (rules, append_assoc) in (
      4,
      rw whole (own_number 3 (pos 0) (pos 1) (pos type) _ _ refl refl (fits_64 type small_type)
          (own_number 2 (pos 1) (pos 2) (pos size) _ _ refl refl (fits_64 size small_size)
          (own_number 1 (pos 2) (pos 3) (pos size) _ _ refl refl (fits_64 size small_size)
          (last_inner (pos 3) id bytes numbers fits known spelled)))),
    )

-- ---- both headers

abbrev data_bytes : ℕ → ℕ → List ℕ
data_bytes count code =
    number_bytes (pos 0) (pos 1) (pos count) ++ (number_bytes (pos 1) (pos 2) (pos code) ++ (number_bytes (pos 2) (pos 3) (pos 3) ++ (number_bytes (pos 3) (pos 4) (pos 3) ++ end_bytes)))

data_inner : (count code : ℕ) → count < 2 ^ 31 → code < 2 ^ 31 → SpellsStruct SpellsNumberField (data_bytes count code) (data_numbers count code)
data_inner count code small_count small_code = (
  4,
  (inner_number 3 (pos 0) (pos 1) (pos count) _ _ refl (fits_64 count small_count)
      (inner_number 2 (pos 1) (pos 2) (pos code) _ _ refl (fits_64 code small_code)
      (inner_number 1 (pos 2) (pos 3) (pos 3) _ _ refl (fits_64 3 (omega arith))
      (inner_number 0 (pos 3) (pos 4) (pos 3) _ _ refl (fits_64 3 (omega arith)) (end_written (pos 4), refl))))),
)

abbrev dictionary_bytes : ℕ → List ℕ
dictionary_bytes count = number_bytes (pos 0) (pos 1) (pos count) ++ (number_bytes (pos 1) (pos 2) (pos 0) ++ end_bytes)

dictionary_inner : (count : ℕ) → count < 2 ^ 31 → SpellsStruct SpellsNumberField (dictionary_bytes count) (dictionary_numbers count)
dictionary_inner count small = (
  2,
  (inner_number 1 (pos 0) (pos 1) (pos count) _ _ refl (fits_64 count small)
      (inner_number 0 (pos 1) (pos 2) (pos 0) _ _ refl (fits_64 0 (omega arith)) (end_written (pos 2), refl))),
)

-- what is written of a header in turn
pub record IsWritten (parts : FieldValues Part) (most : ℕ) (bytes : List ℕ) : Type 0 where
  pub spelled : SpellsHeader bytes parts
  pub short : length bytes ≤ most

number_short : (last id z : ℤ) (rest : List ℕ) → length (field_bytes last id 5) ≡ 1 → length (whole_bytes z) ≤ 5 → length (number_bytes last id z ++ rest) ≤ 6 + length rest
number_short last id z rest one five =
    omega (arith, one, five, length-append (number_bytes last id z) rest, length-append (field_bytes last id 5) (whole_bytes z))

begun_short : (type size : ℕ) (id : ℤ) → type < 2 ^ 31 → size < 2 ^ 31 → length (field_bytes (pos 3) id 12) ≡ 1 → length (begun_bytes (pos type) size id) ≤ 19
begun_short type size id small_type small_size one =
    let third = number_short (pos 2) (pos 3) (pos size) (field_bytes (pos 3) id 12) refl (whole_short size small_size) in
    let second = number_short (pos 1) (pos 2) (pos size) (number_bytes (pos 2) (pos 3) (pos size) ++ field_bytes (pos 3) id 12) refl (whole_short size small_size) in
    let first = number_short (pos 0) (pos 1) (pos type) (number_bytes (pos 1) (pos 2) (pos size) ++ (number_bytes (pos 2) (pos 3) (pos size) ++ field_bytes (pos 3) id 12)) refl (whole_short type small_type) in
    omega (arith, one, first, second, third)

data_short : (count code : ℕ) → count < 2 ^ 31 → code < 2 ^ 31 → length (data_bytes count code) ≤ 25
data_short count code small_count small_code =
    let three : length (whole_bytes (pos 3)) ≤ 5 = whole_short 3 (omega arith) in
    let fourth = number_short (pos 3) (pos 4) (pos 3) end_bytes refl three in
    let third = number_short (pos 2) (pos 3) (pos 3) (number_bytes (pos 3) (pos 4) (pos 3) ++ end_bytes) refl three in
    let second = number_short (pos 1) (pos 2) (pos code) (number_bytes (pos 2) (pos 3) (pos 3) ++ (number_bytes (pos 3) (pos 4) (pos 3) ++ end_bytes)) refl (whole_short code small_code) in
    let first = number_short (pos 0) (pos 1) (pos count) (number_bytes (pos 1) (pos 2) (pos code) ++ (number_bytes (pos 2) (pos 3) (pos 3) ++ (number_bytes (pos 3) (pos 4) (pos 3) ++ end_bytes)))
    refl (whole_short count small_count) in
    omega (arith, first, second, third, fourth)

dictionary_short : (count : ℕ) → count < 2 ^ 31 → length (dictionary_bytes count) ≤ 13
dictionary_short count small =
    let second = number_short (pos 1) (pos 2) (pos 0) end_bytes refl (whole_short 0 (omega arith)) in
    let first = number_short (pos 0) (pos 1) (pos count) (number_bytes (pos 1) (pos 2) (pos 0) ++ end_bytes) refl (whole_short count small) in
    omega (arith, first, second)

page_short : (begun bytes : List ℕ) (n : ℕ) → length begun ≤ 19 → length bytes ≤ n → length (begun ++ (bytes ++ end_bytes)) ≤ 20 + n
page_short begun bytes n short few = omega (arith, short, few, length-append begun (bytes ++ end_bytes), length-append bytes end_bytes)

added : (last id z : ℤ) (outer : List ℤ) (bytes : List ℕ) (w v : WrittenSoFar) → w ≡ record { bytes = bytes; structs = last ∷ outer } → v ≡ with_number_field id z w
    → v ≡ record { bytes = bytes ++ number_bytes last id z; structs = id ∷ outer }
added last id z outer bytes w v e h =
    h ∙ ap (with_number_field id z) e ∙ ap (λ more. record { bytes = more; structs = id ∷ outer }) (append_assoc bytes (field_bytes last id 5) (whole_bytes z))

six_parts : (a b c d e f g : List ℕ) → ((((a ++ b) ++ c) ++ d) ++ e) ++ (f ++ g) ≡ a ++ ((b ++ (c ++ (d ++ (e ++ f)))) ++ g)
six_parts a b c d e f g = search (rules, append_assoc)

four_parts : (a b c f g : List ℕ) → ((a ++ b) ++ c) ++ (f ++ g) ≡ a ++ ((b ++ (c ++ f)) ++ g)
four_parts a b c f g = search (rules, append_assoc)

pub data_written : (count code size : ℕ) (w0 w1 w2 w3 w4 : WrittenSoFar) (bytes : List ℕ)
    → w0 ≡ record { bytes = begun_bytes (pos 0) size (pos 5); structs = pos 0 ∷ pos 5 ∷ [] } → w1 ≡ with_number_field (pos 1) (pos count) w0 → w2 ≡ with_number_field (pos 2) (pos code) w1
    → w3 ≡ with_number_field (pos 3) (pos 3) w2 → w4 ≡ with_number_field (pos 4) (pos 3) w3 → bytes ≡ w4.bytes ++ (end_bytes ++ end_bytes)
    → count < 2 ^ 31 → code < 2 ^ 31 → size < 2 ^ 31 → IsWritten (page_parts 0 size (pos 5) (data_numbers count code)) 45 bytes
data_written count code size w0 w1 w2 w3 w4 bytes e0 e1 e2 e3 e4 e small_count small_code small_size =
    let begun = begun_bytes (pos 0) size (pos 5) in
    let n1 = number_bytes (pos 0) (pos 1) (pos count) in
    let n2 = number_bytes (pos 1) (pos 2) (pos code) in
    let n3 = number_bytes (pos 2) (pos 3) (pos 3) in
    let n4 = number_bytes (pos 3) (pos 4) (pos 3) in
    let f1 = added (pos 0) (pos 1) (pos count) (pos 5 ∷ []) begun w0 w1 e0 e1 in
    let f2 = added (pos 1) (pos 2) (pos code) (pos 5 ∷ []) (begun ++ n1) w1 w2 f1 e2 in
    let f3 = added (pos 2) (pos 3) (pos 3) (pos 5 ∷ []) ((begun ++ n1) ++ n2) w2 w3 f2 e3 in
    let f4 = added (pos 3) (pos 4) (pos 3) (pos 5 ∷ []) (((begun ++ n1) ++ n2) ++ n3) w3 w4 f3 e4 in
    let whole : bytes ≡ begun ++ (data_bytes count code ++ end_bytes) =
    e ∙ ap (λ w. w.bytes ++ (end_bytes ++ end_bytes)) f4 ∙ six_parts begun n1 n2 n3 n4 end_bytes end_bytes in
    rw whole record {
      spelled = page_spelled 0 size (pos 5) (data_bytes count code) (data_numbers count code) (omega arith) small_size refl refl (data_inner count code small_count small_code);
      short = page_short (begun_bytes (pos 0) size (pos 5)) (data_bytes count code) 25 (begun_short 0 size (pos 5) (omega arith) small_size refl) (data_short count code small_count small_code);
    }

pub dictionary_written : (count size : ℕ) (w0 w1 w2 : WrittenSoFar) (bytes : List ℕ)
    → w0 ≡ record { bytes = begun_bytes (pos 2) size (pos 7); structs = pos 0 ∷ pos 7 ∷ [] } → w1 ≡ with_number_field (pos 1) (pos count) w0 → w2 ≡ with_number_field (pos 2) (pos 0) w1
    → bytes ≡ w2.bytes ++ (end_bytes ++ end_bytes) → count < 2 ^ 31 → size < 2 ^ 31 → IsWritten (page_parts 2 size (pos 7) (dictionary_numbers count)) 33 bytes
dictionary_written count size w0 w1 w2 bytes e0 e1 e2 e small_count small_size =
    let begun = begun_bytes (pos 2) size (pos 7) in
    let n1 = number_bytes (pos 0) (pos 1) (pos count) in
    let n2 = number_bytes (pos 1) (pos 2) (pos 0) in
    let f1 = added (pos 0) (pos 1) (pos count) (pos 7 ∷ []) begun w0 w1 e0 e1 in
    let f2 = added (pos 1) (pos 2) (pos 0) (pos 7 ∷ []) (begun ++ n1) w1 w2 f1 e2 in
    let whole : bytes ≡ begun ++ (dictionary_bytes count ++ end_bytes) = e ∙ ap (λ w. w.bytes ++ (end_bytes ++ end_bytes)) f2 ∙ four_parts begun n1 n2 end_bytes end_bytes in
    rw whole record {
      spelled = page_spelled 2 size (pos 7) (dictionary_bytes count) (dictionary_numbers count) (omega arith) small_size refl refl (dictionary_inner count small_count);
      short = page_short (begun_bytes (pos 2) size (pos 7)) (dictionary_bytes count) 13 (begun_short 2 size (pos 7) (omega arith) small_size refl) (dictionary_short count small_count);
    }
