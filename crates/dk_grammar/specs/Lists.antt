-- Lists of Thrift's compact protocol whose elements are read, and structs that hold one such value beside others.
use Rattle.std.specs.Prelude.{◌≡◌, ℕ, zero, suc, ◌==◌, ◌&&◌, ◌||◌, Bool, if◌then◌else◌, IsTrue, IsFalse, ℤ, Option, Some, None, option_map, Ok, List, [], ◌∷◌, ◌++◌, length}
use Rattle.std.specs.Ordering.{int_eq}
use Rattle.dk_grammar.specs.Thrift.{Front, ◌>>=◌, bad_at, list_at, head}
use Rattle.dk_grammar.specs.Grammar.{SpellsList}
use Rattle.dk_grammar.specs.Nested.{Behind}
use Rattle.dk_grammar.specs.Structs.{FieldValues, Meaning}

-- so many values behind one another
abbrev pub each_at : {A : Type 0} → (List ℕ → Front A) → ℕ → List ℕ → Front (List A)
each_at read zero bytes = Ok ([], bytes)
each_at read (suc n) bytes = read bytes >>= λ x. each_at read n x.1 >>= λ more. Ok (x.0 ∷ more.0, more.1)

-- whether a list may have elements of this kind; where there are none, its kind doesn't matter
abbrev pub may_hold : ℕ → ℕ → ℕ → Bool
may_hold kind count of = count == 0 || of == kind

-- a list whose elements are of this kind
abbrev pub list_of : {A : Type 0} → ℕ → (List ℕ → Front A) → List ℕ → Front (List A)
list_of kind read bytes = list_at bytes >>= λ x. if may_hold kind x.0.count x.0.kind then each_at read x.0.count x.1 else bad_at bytes

-- the bytes are the values, one behind another
abbrev pub SpellsEach : {A : Type 0} → (List ℕ → A → Type 0) → List ℕ → List A → Type 0
SpellsEach spells bytes [] = bytes ≡ []
SpellsEach spells bytes (x ∷ xs) = Behind (λ front. spells front x) (λ more. SpellsEach spells more xs) bytes

-- the bytes are the header of a list of so many elements of this kind, or of none of any kind
abbrev pub SpellsListHeader : ℕ → ℕ → List ℕ → Type 0
SpellsListHeader kind count bytes = (of : ℕ) × IsTrue (may_hold kind count of) × SpellsList bytes (head count of)

-- the bytes are a list of these values, which are of this kind
abbrev pub SpellsListOf : {A : Type 0} → ℕ → (List ℕ → A → Type 0) → List ℕ → List A → Type 0
SpellsListOf kind spells bytes values = Behind (SpellsListHeader kind (length values)) (λ more. SpellsEach spells more values) bytes

-- what counts of a field: the value that a struct holds, or what counts of its other fields
pub data Either (A B : Type 0) : Type 0 where
  held : A → Either A B
  other : B → Either A B

-- whether a field is the one that holds the value: it has the id, and its value is of the kind
abbrev pub is_held : ℤ → ℕ → ℤ → ℕ → Bool
is_held id kind i k = int_eq i id && k == kind

-- in the field of this id a value of this kind counts, and in all else what `rest` says
abbrev pub held_or : {A B : Type 0} → ℤ → ℕ → (List ℕ → Front A) → Meaning B → Meaning (Either A B)
held_or id kind read rest i k bytes =
    if is_held id kind i k then (read bytes >>= λ x. Ok (Some (held x.0), x.1)) else (rest i k bytes >>= λ x. Ok (option_map other x.0, x.1))

abbrev pub SpellsHeldOr : {A B : Type 0} → ℤ → ℕ → (List ℕ → A → Type 0) → (ℤ → ℕ → List ℕ → Option B → Type 0) → ℤ → ℕ → List ℕ → Option (Either A B) → Type 0
SpellsHeldOr id kind spells rest i k bytes (Some (held x)) = IsTrue (is_held id kind i k) × spells bytes x
SpellsHeldOr id kind spells rest i k bytes (Some (other y)) = IsFalse (is_held id kind i k) × rest i k bytes (Some y)
SpellsHeldOr id kind spells rest i k bytes None = IsFalse (is_held id kind i k) × rest i k bytes None

-- one of the two sorts
abbrev pub own_held : {A B : Type 0} → ℤ → Either A B → FieldValues A
own_held id (held x) = (id, x) ∷ []
own_held id (other y) = []

abbrev pub own_other : {A B : Type 0} → ℤ → Either A B → FieldValues B
own_other id (held x) = []
own_other id (other y) = (id, y) ∷ []

-- the held values, and the others
abbrev pub held_in : {A B : Type 0} → FieldValues (Either A B) → FieldValues A
held_in [] = []
held_in (x ∷ xs) = own_held x.0 x.1 ++ held_in xs

abbrev pub others_in : {A B : Type 0} → FieldValues (Either A B) → FieldValues B
others_in [] = []
others_in (x ∷ xs) = own_other x.0 x.1 ++ others_in xs

-- what is read, turned by a function
abbrev pub read_turned : {A B : Type 0} → (A → B) → (List ℕ → Front A) → List ℕ → Front B
read_turned f read bytes = read bytes >>= λ x. Ok (f x.0, x.1)

abbrev pub SpelledBy : {A B : Type 0} → (A → B) → (List ℕ → A → Type 0) → List ℕ → B → Type 0
SpelledBy {A} f spells bytes y = (x : A) × spells bytes x × (y ≡ f x)
