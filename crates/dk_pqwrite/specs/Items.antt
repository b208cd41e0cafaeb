-- Structs written field by field.
use Rattle.std.specs.Prelude.{◌≡◌, ◌<◌, ◌≤◌, ◌^◌, IfSome, ℕ, ℤ, pos, List, [], ◌∷◌, ◌++◌, length, Option, Some, None}
use Rattle.dk_grammar.specs.Spelling.{whole_bytes, binary_bytes, field_bytes, end_bytes}
use Rattle.dk_thrift.specs.Writing.{WrittenSoFar, IsOpen, with_bytes, with_field_header}

-- a field: its id, its kind and the bytes of its value
pub record Item : Type 0 where
  pub id : ℤ
  pub kind : ℕ
  pub bytes : List ℕ

-- a whole number, and a text
abbrev pub number_item : ℕ → ℕ → ℕ → Item
number_item id kind n = record { id = pos id; kind = kind; bytes = whole_bytes (pos n) }

abbrev pub text_item : ℕ → List ℕ → Item
text_item id text = record { id = pos id; kind = 8; bytes = binary_bytes text }

-- a number that may be left out
abbrev pub optional_items : ℕ → ℕ → Option ℕ → List Item
optional_items id kind None = []
optional_items id kind (Some n) = number_item id kind n ∷ []

abbrev pub IsWithin32Bits : Option ℕ → Type 0
IsWithin32Bits n = IfSome n (λ n. n < 2 ^ 32)

-- the fields behind the field `last`, and the end
abbrev pub items_bytes : ℤ → List Item → List ℕ
items_bytes last [] = end_bytes
items_bytes last (x ∷ xs) = field_bytes last x.id x.kind ++ (x.bytes ++ items_bytes x.id xs)

abbrev pub struct_bytes : List Item → List ℕ
struct_bytes items = items_bytes (pos 0) items

-- more fields in the current struct
abbrev pub with_items : List Item → WrittenSoFar → WrittenSoFar
with_items [] w = w
with_items (x ∷ xs) w = with_items xs (with_bytes x.bytes (with_field_header x.id x.kind w))

-- the fields are added to the current struct, which goes on
abbrev pub Puts : List Item → WrittenSoFar → WrittenSoFar → Type 0
Puts items old new = (new ≡ with_items items old) × IsOpen new

-- Bytes that spell the value, and no more than so many, are added, and the current struct goes on.
pub record WritesValue {A : Type 0} (spells : List ℕ → A → Type 0) (value : A) (most : ℕ) (old new : WrittenSoFar) : Type 0 where
  pub more : List ℕ
  pub written : new ≡ with_bytes more old
  pub spelled : spells more value
  pub size : length more ≤ most
  pub goes_on : IsOpen new

-- A field whose bytes spell the value, and are no more than so many, is added to the current struct, which goes on.
pub record PutsHeld {A : Type 0} (id kind : ℕ) (spells : List ℕ → A → Type 0) (value : A) (most : ℕ) (old new : WrittenSoFar) : Type 0 where
  pub bytes : List ℕ
  pub written : new ≡ with_items (record { id = pos id; kind = kind; bytes = bytes } ∷ []) old
  pub spelled : spells bytes value
  pub size : length bytes ≤ most
  pub goes_on : IsOpen new
