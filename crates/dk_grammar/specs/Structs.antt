-- What the fields of a struct say, as a list in the order in which they stand, and which bytes are its spelling.
use Rattle.std.specs.Prelude.{◌≡◌, ℕ, zero, suc, ◌&&◌, nat_le, Bool, if◌then◌else◌, IsTrue, IsFalse, ℤ, pos, Option, Some, None, Ok, Err, List, [], ◌∷◌, length}
use Rattle.std.specs.Ordering.{int_eq}
use Rattle.dk_grammar.specs.Thrift.{Front, ◌>>=◌, field_at, whole_at}
use Rattle.dk_grammar.specs.Grammar.{SpellsField, SpellsWhole}
use Rattle.dk_grammar.specs.Nested.{Behind, SpellsValue}
use Rattle.dk_grammar.specs.Passed.{passed_at}
use Rattle.dk_grammar.specs.declared.thrift.Field.{Field}
use Rattle.dk_grammar.specs.declared.thrift.Field.TheVariants.{End, Next}
use Rattle.dk_grammar.specs.declared.thrift.Flaw.TheVariants.{Short}

-- values, each under the id of its field
abbrev pub FieldValues : Type 0 → Type 0
FieldValues V = List (ℤ × V)

-- What stands in a field, by its id, its kind and the bytes from its value on: a value that counts, or one that is passed over.
abbrev pub Meaning : Type 0 → Type 0
Meaning V = ℤ → ℕ → List ℕ → Front (Option V)

abbrev pub under : {V : Type 0} → ℤ → Option V → FieldValues V → FieldValues V
under id None more = more
under id (Some value) more = (id, value) ∷ more

-- a field's value, and then the fields behind it
abbrev pub value_then_fields : {V : Type 0} → Meaning V → (ℤ → List ℕ → Front (FieldValues V)) → Field → List ℕ → Front (FieldValues V)
value_then_fields meaning go_on End bytes = Ok ([], bytes)
value_then_fields meaning go_on (Next id kind) bytes = meaning id kind bytes >>= λ x. go_on id x.1 >>= λ more. Ok (under id x.0 more.0, more.1)

-- the fields behind the field `last`; each takes at least a byte, so there are at most as many as bytes
abbrev pub fields_from : {V : Type 0} → Meaning V → ℕ → ℤ → List ℕ → Front (FieldValues V)
fields_from meaning zero last bytes = Err Short
fields_from meaning (suc most) last bytes = field_at last bytes >>= λ x. value_then_fields meaning (fields_from meaning most) x.0 x.1

-- the fields of a struct, and the bytes behind its end
abbrev pub struct_at : {V : Type 0} → Meaning V → List ℕ → Front (FieldValues V)
struct_at meaning bytes = fields_from meaning (length bytes) (pos 0) bytes

-- the kinds of whole numbers: of 16, 32 and 64 bits
abbrev pub is_whole : ℕ → Bool
is_whole kind = nat_le 4 kind && nat_le kind 6

-- whole numbers count, whatever their width; all else is passed over
abbrev pub number_meaning : Meaning ℤ
number_meaning id kind bytes = if is_whole kind then (whole_at bytes >>= λ x. Ok (Some x.0, x.1)) else (passed_at kind bytes >>= λ rest. Ok (None, rest))

-- the first that is there
abbrev pub first_of_two : {V : Type 0} → Option V → Option V → Option V
first_of_two (Some value) other = Some value
first_of_two None other = other

abbrev pub when : {V : Type 0} → Bool → V → Option V
when b value = if b then Some value else None

-- the last value under an id
abbrev pub last_under : {V : Type 0} → ℤ → FieldValues V → Option V
last_under id [] = None
last_under id (x ∷ xs) = first_of_two (last_under id xs) (when (int_eq x.0 id) x.1)

-- So many fields behind the field `last`, and the end. `spells` says which bytes are a field's value, and what counts of it.
abbrev pub SpellsFields : {V : Type 0} → (ℤ → ℕ → List ℕ → Option V → Type 0) → ℕ → ℤ → List ℕ → FieldValues V → Type 0
SpellsFields spells zero last bytes values = SpellsField last bytes End × (values ≡ [])
SpellsFields {V} spells (suc n) last bytes values =
    (id : ℤ) × ((kind : ℕ) × ((value : Option V) × ((more : FieldValues V) × ((values ≡ under id value more)
    × Behind (λ header. SpellsField last header (Next id kind)) (Behind (λ part. spells id kind part value) (λ part. SpellsFields spells n id part more)) bytes))))

abbrev pub SpellsStruct : {V : Type 0} → (ℤ → ℕ → List ℕ → Option V → Type 0) → List ℕ → FieldValues V → Type 0
SpellsStruct spells bytes values = (n : ℕ) × SpellsFields spells n (pos 0) bytes values

-- a whole number counts, and no value of another kind
abbrev pub SpellsNumberField : ℤ → ℕ → List ℕ → Option ℤ → Type 0
SpellsNumberField id kind bytes (Some z) = IsTrue (is_whole kind) × SpellsWhole bytes z
SpellsNumberField id kind bytes None = IsFalse (is_whole kind) × SpellsValue kind bytes
