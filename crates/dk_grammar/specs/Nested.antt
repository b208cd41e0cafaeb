-- Which bytes are a spelling of some value of a kind, whatever value it is, apart from passing over it.
use Rattle.std.specs.Prelude.{◌≡◌, ℕ, zero, suc, ◌/◌, ◌%◌, ◌^◌, ◌<◌, IsTrue, ℤ, pos, Ok, List, [], ◌∷◌, ◌++◌, length}
use Rattle.dk_grammar.specs.Thrift.{is_kind}
use Rattle.dk_grammar.specs.Grammar.{SpellsNumber, SpellsBinary, SpellsField, SpellsList}
use Rattle.dk_grammar.specs.Passed.{Rest, kind_numbered}
use Rattle.dk_grammar.specs.declared.thrift.Field.TheVariants.{End, Next}
use Rattle.dk_grammar.specs.declared.thrift.ListHead.{ListHead}
use Rattle.dk_grammar.specs.declared.thrift.Kind.{Kind}
use Rattle.dk_grammar.specs.declared.thrift.Kind.TheVariants as kinds

-- one spelling behind another
abbrev pub Behind : (List ℕ → Type 0) → (List ℕ → Type 0) → List ℕ → Type 0
Behind first second bytes = (front : List ℕ) × ((more : List ℕ) × (bytes ≡ front ++ more) × first front × second more)

-- so many spellings behind one another
abbrev pub Repeats : (List ℕ → Type 0) → ℕ → List ℕ → Type 0
Repeats spells zero bytes = bytes ≡ []
Repeats spells (suc n) bytes = Behind spells (Repeats spells n) bytes

-- `spells` says which bytes are an element of a kind
abbrev pub SpellsElements : (Kind → List ℕ → Type 0) → List ℕ → Type 0
SpellsElements spells bytes = (list : ListHead) × Behind (λ front. SpellsList front list) (Repeats (spells (kind_numbered list.kind)) list.count) bytes

-- an empty map is its count alone; else a byte has the kinds of the keys and of the values
abbrev pub SpellsEntries : (Kind → List ℕ → Type 0) → ℕ → List ℕ → Type 0
SpellsEntries spells zero bytes = bytes ≡ []
SpellsEntries spells (suc n) [] = ⊥
SpellsEntries spells (suc n) (b ∷ bs) =
    IsTrue (is_kind (b / 16)) × IsTrue (is_kind (b % 16)) × Repeats (Behind (spells (kind_numbered (b / 16))) (spells (kind_numbered (b % 16)))) (suc n) bs

abbrev pub SpellsMap : (Kind → List ℕ → Type 0) → List ℕ → Type 0
SpellsMap spells bytes = (n : ℕ) × Behind (λ front. (n < 2 ^ 32) × SpellsNumber front n) (SpellsEntries spells n) bytes

-- a flag in a field stands in the header
abbrev pub SpellsFieldValue : (Kind → List ℕ → Type 0) → Kind → List ℕ → Type 0
SpellsFieldValue spells kinds.Flag bytes = bytes ≡ []
SpellsFieldValue spells kind bytes = spells kind bytes

-- so many fields behind the field `last`, and the end
abbrev pub SpellsAnyFields : (Kind → List ℕ → Type 0) → ℕ → ℤ → List ℕ → Type 0
SpellsAnyFields spells zero last bytes = SpellsField last bytes End
SpellsAnyFields spells (suc n) last bytes =
    (id : ℤ) × ((kind : ℕ) × Behind (λ header. SpellsField last header (Next id kind)) (Behind (SpellsFieldValue spells (kind_numbered kind)) (SpellsAnyFields spells n id)) bytes)

abbrev pub SpellsAnyStruct : (Kind → List ℕ → Type 0) → List ℕ → Type 0
SpellsAnyStruct spells bytes = (n : ℕ) × SpellsAnyFields spells n (pos 0) bytes

-- an element of a list or a map, with at most so many levels of structs and containers
abbrev pub SpellsAnyElement : ℕ → Kind → List ℕ → Type 0
SpellsAnyElement levels kinds.Flag bytes = length bytes ≡ 1
SpellsAnyElement levels kinds.Byte bytes = length bytes ≡ 1
SpellsAnyElement levels kinds.Whole bytes = (n : ℕ) × SpellsNumber bytes n
SpellsAnyElement levels kinds.Double bytes = length bytes ≡ 8
SpellsAnyElement levels kinds.Binary bytes = (part : List ℕ) × SpellsBinary bytes part
SpellsAnyElement zero kind bytes = ⊥
SpellsAnyElement (suc levels) kinds.List bytes = SpellsElements (SpellsAnyElement levels) bytes
SpellsAnyElement (suc levels) kinds.Map bytes = SpellsMap (SpellsAnyElement levels) bytes
SpellsAnyElement (suc levels) kinds.Struct bytes = SpellsAnyStruct (SpellsAnyElement levels) bytes

-- the value of a field whose kind has this number
abbrev pub SpellsValue : ℕ → List ℕ → Type 0
SpellsValue kind bytes = IsTrue (is_kind kind) × SpellsFieldValue (SpellsAnyElement 32) (kind_numbered kind) bytes

-- a spelling of some value in front of the rest
abbrev pub Takes : (List ℕ → Type 0) → List ℕ → List ℕ → Type 0
Takes spells bytes rest = (front : List ℕ) × (bytes ≡ front ++ rest) × spells front

-- Passing over goes by a grammar: what it takes is a spelling, and a spelling it takes, whatever follows.
pub record PassesBy (spells : List ℕ → Type 0) (pass : List ℕ → Rest) : Type 0 where
  pub spelled : (bytes rest : List ℕ) → pass bytes ≡ Ok rest → Takes spells bytes rest
  pub taken : (front rest : List ℕ) → spells front → pass (front ++ rest) ≡ Ok rest
