-- What a writer has written, and what its calls add.
use Rattle.std.specs.Prelude.{◌≡◌, ◌≢◌, ℕ, ℤ, pos, Ok, Option, Some, None, List, [], ◌∷◌, ◌++◌, reverse}
use Rattle.dk_grammar.specs.Thrift.{Front, field_at}
use Rattle.dk_grammar.specs.declared.thrift.Field.{Field}
use Rattle.dk_grammar.specs.Spelling.{field_bytes, end_bytes}

-- the bytes written, and the ids of the last fields of the structs that aren't ended, the innermost first
pub record WrittenSoFar : Type 0 where
  pub bytes : List ℕ
  pub structs : List ℤ

abbrev pub IsOpen : WrittenSoFar → Type 0
IsOpen w = w.structs ≢ []

-- the last ids of the open structs, from the current one's and the outer ones', which come outermost first
abbrev pub structs_of : Option ℤ → List ℤ → List ℤ
structs_of None outer = []
structs_of (Some last) outer = last ∷ reverse outer

-- bytes more
abbrev pub with_bytes : List ℕ → WrittenSoFar → WrittenSoFar
with_bytes more w = record w { bytes = w.bytes ++ more }

-- an inner struct begun
abbrev pub with_struct : WrittenSoFar → WrittenSoFar
with_struct w = record w { structs = pos 0 ∷ w.structs }

-- a field's header behind the current struct's last one
abbrev pub field_in : List ℤ → ℤ → ℕ → WrittenSoFar → WrittenSoFar
field_in [] id kind w = w
field_in (last ∷ outer) id kind w = record { bytes = w.bytes ++ field_bytes last id kind; structs = id ∷ outer }

abbrev pub with_field_header : ℤ → ℕ → WrittenSoFar → WrittenSoFar
with_field_header id kind w = field_in w.structs id kind w

-- the current struct ended
abbrev pub outer_of : List ℤ → List ℤ
outer_of [] = []
outer_of (last ∷ outer) = outer

abbrev pub with_end : WrittenSoFar → WrittenSoFar
with_end w = record { bytes = w.bytes ++ end_bytes; structs = outer_of w.structs }

-- what the call added is read as the value, whatever follows
abbrev pub IsReadAgain : {A : Type 0} → (List ℕ → Front A) → A → WrittenSoFar → WrittenSoFar → Type 0
IsReadAgain read x old new = (more : List ℕ) × (new.bytes ≡ old.bytes ++ more) × ((rest : List ℕ) → read (more ++ rest) ≡ Ok (x, rest))

-- a header is read behind the last field of the struct that it was written in
abbrev pub IsFieldAgain : Field → WrittenSoFar → WrittenSoFar → Type 0
IsFieldAgain field old new = (last : ℤ) (outer : List ℤ) → old.structs ≡ last ∷ outer → IsReadAgain (field_at last) field old new
