-- Which bytes are a spelling of which value, apart from reading and writing. A value can have several spellings.
use Rattle.std.specs.Prelude.{◌≡◌, ℕ, ◌+◌, ◌*◌, ◌%◌, ◌^◌, ◌<◌, ◌≤◌, ◌⊎◌, ◌==◌, ◌||◌, IsTrue, ℤ, pos, ◌+ℤ◌, Ok, List, [], ◌∷◌, ◌++◌, length}
use Rattle.dk_grammar.specs.Varint.{IsVarint}
use Rattle.dk_grammar.specs.Zigzag.{zigzag_of}
use Rattle.dk_grammar.specs.Thrift.{Front, is_id, is_kind}
use Rattle.dk_grammar.specs.declared.thrift.Field.{Field}
use Rattle.dk_grammar.specs.declared.thrift.Field.TheVariants.{End, Next}
use Rattle.dk_grammar.specs.declared.thrift.ListHead.{ListHead}

-- a number of at most 64 bits is a varint
abbrev pub SpellsNumber : List ℕ → ℕ → Type 0
SpellsNumber bytes n = IsVarint bytes n × (n < 2 ^ 64)

-- a whole number is a zigzag varint
abbrev pub SpellsWhole : List ℕ → ℤ → Type 0
SpellsWhole bytes z = (n : ℕ) × SpellsNumber bytes n × (z ≡ zigzag_of n)

-- a binary is the number of its bytes, and they
abbrev pub SpellsBinary : List ℕ → List ℕ → Type 0
SpellsBinary bytes part = (size : List ℕ) × SpellsNumber size (length part) × (bytes ≡ size ++ part)

-- The header of a field is one byte with the step from the last id and the kind, or a byte with the kind alone and then the id;
-- a zero byte ends the struct.
abbrev pub SpellsField : ℤ → List ℕ → Field → Type 0
SpellsField last [] field = ⊥
SpellsField last (b ∷ bs) End = (b ≡ 0) × (bs ≡ [])
SpellsField last (b ∷ bs) (Next id kind) =
    IsTrue (is_kind kind) × IsTrue (is_id id)
    × (((step : ℕ) × (0 < step) × (b ≡ 16 * step + kind) × (id ≡ last +ℤ pos step) × (bs ≡ [])) ⊎ ((b ≡ kind) × SpellsWhole bs id))

-- The header of a list is one byte with the count and the kind, or a byte with 15 and the kind and then the count. The byte 0
-- is the header of no elements, of no kind.
abbrev pub SpellsList : List ℕ → ListHead → Type 0
SpellsList [] head = ⊥
SpellsList (b ∷ bs) head =
    IsTrue (is_kind head.kind || b == 0)
    × (((head.count < 15) × (b ≡ 16 * head.count + head.kind) × (bs ≡ [])) ⊎ ((240 ≤ b) × (head.kind ≡ b % 16) × (head.count < 2 ^ 32) × SpellsNumber bs head.count))

-- a value, spelled by the bytes in front of the rest
abbrev pub Spelled : {A : Type 0} → (List ℕ → A → Type 0) → List ℕ → A → List ℕ → Type 0
Spelled spells bytes x rest = (front : List ℕ) × (bytes ≡ front ++ rest) × spells front x

-- Reading goes by a grammar: what it gives is spelled by the bytes taken, and what is spelled it gives, whatever follows.
pub record ReadsBy {A : Type 0} (spells : List ℕ → A → Type 0) (read : List ℕ → Front A) : Type 0 where
  pub spelled : (bytes rest : List ℕ) (x : A) → read bytes ≡ Ok (x, rest) → Spelled spells bytes x rest
  pub given : (front rest : List ℕ) (x : A) → spells front x → read (front ++ rest) ≡ Ok (x, rest)
