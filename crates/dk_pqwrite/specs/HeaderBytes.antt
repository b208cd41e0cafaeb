-- The headers of pages that are written.
use Rattle.std.specs.Prelude.{ℕ, ℤ, pos, List, [], ◌∷◌, ◌++◌}
use Rattle.dk_grammar.specs.Structs.{FieldValues}
use Rattle.dk_grammar.specs.PageHeaders.{Part, number, inner}
use Rattle.dk_grammar.specs.Spelling.{field_bytes, whole_bytes}
use Rattle.dk_thrift.specs.Writing.{WrittenSoFar, with_bytes, with_field_header}

-- Field 1 is the page's type, 2 and 3 are the size of its body, which isn't compressed, and one more field is the inner header.
abbrev pub page_parts : ℕ → ℕ → ℤ → FieldValues ℤ → FieldValues Part
page_parts type size id numbers = (pos 1, number (pos type)) ∷ (pos 2, number (pos size)) ∷ (pos 3, number (pos size)) ∷ (id, inner numbers) ∷ []

-- of a data page: how many values, their encoding, and the encodings of both levels, RLE
abbrev pub data_numbers : ℕ → ℕ → FieldValues ℤ
data_numbers count code = (pos 1, pos count) ∷ (pos 2, pos code) ∷ (pos 3, pos 3) ∷ (pos 4, pos 3) ∷ []

-- of a dictionary page: how many entries, and their encoding, PLAIN
abbrev pub dictionary_numbers : ℕ → FieldValues ℤ
dictionary_numbers count = (pos 1, pos count) ∷ (pos 2, pos 0) ∷ []

-- a number under its id, in a field of 32 bits
abbrev pub with_number_field : ℤ → ℤ → WrittenSoFar → WrittenSoFar
with_number_field id z w = with_bytes (whole_bytes z) (with_field_header id 5 w)

abbrev pub number_bytes : ℤ → ℤ → ℤ → List ℕ
number_bytes last id z = field_bytes last id 5 ++ whole_bytes z

-- the fields of a header up to the start of its inner header
abbrev pub begun_bytes : ℤ → ℕ → ℤ → List ℕ
begun_bytes type size id =
    number_bytes (pos 0) (pos 1) type ++ (number_bytes (pos 1) (pos 2) (pos size) ++ (number_bytes (pos 2) (pos 3) (pos size) ++ field_bytes (pos 3) id 12))
