-- The fields of page headers (Apache Parquet, parquet.thrift, PageHeader).
use Rattle.std.specs.Prelude.{ℕ, ◌==◌, ◌&&◌, ◌||◌, Bool, if◌then◌else◌, IsTrue, IsFalse, ℤ, pos, Option, Some, None, option_map, unwrap_or, Ok, List, [], ◌∷◌, ◌++◌}
use Rattle.std.specs.Ordering.{int_eq}
use Rattle.dk_grammar.specs.Thrift.{◌>>=◌}
use Rattle.dk_grammar.specs.Structs.{FieldValues, Meaning, struct_at, number_meaning, last_under, SpellsStruct, SpellsNumberField}

-- What counts in a page header: a number, or the numbers of an inner header.
pub data Part : Type 0 where
  number : ℤ → Part
  inner : FieldValues ℤ → Part

-- the inner headers: of a data page, of a dictionary page and of a data page of the second version
abbrev pub is_inner : ℤ → Bool
is_inner id = int_eq id (pos 5) || int_eq id (pos 7) || int_eq id (pos 8)

-- an inner header is a struct, kind 12
abbrev pub part_meaning : Meaning Part
part_meaning id kind bytes =
    if is_inner id && kind == 12 then (struct_at number_meaning bytes >>= λ x. Ok (Some (inner x.0), x.1))
    else (number_meaning id kind bytes >>= λ x. Ok (option_map number x.0, x.1))

abbrev pub own_number : ℤ → Part → FieldValues ℤ
own_number id (number z) = (id, z) ∷ []
own_number id (inner numbers) = []

abbrev pub own_inner : ℤ → Part → FieldValues (FieldValues ℤ)
own_inner id (number z) = []
own_inner id (inner numbers) = (id, numbers) ∷ []

-- a header's own numbers, and its inner headers
abbrev pub numbers_in : FieldValues Part → FieldValues ℤ
numbers_in [] = []
numbers_in (x ∷ xs) = own_number x.0 x.1 ++ numbers_in xs

abbrev pub inners_in : FieldValues Part → FieldValues (FieldValues ℤ)
inners_in [] = []
inners_in (x ∷ xs) = own_inner x.0 x.1 ++ inners_in xs

-- one that isn't there has no numbers
abbrev pub inner_under : ℤ → FieldValues Part → FieldValues ℤ
inner_under id parts = unwrap_or (last_under id (inners_in parts)) []

-- in a page header, an inner header counts too
abbrev pub SpellsPart : ℤ → ℕ → List ℕ → Option Part → Type 0
SpellsPart id kind bytes (Some (inner numbers)) = IsTrue (is_inner id && kind == 12) × SpellsStruct SpellsNumberField bytes numbers
SpellsPart id kind bytes (Some (number z)) = IsFalse (is_inner id && kind == 12) × SpellsNumberField id kind bytes (Some z)
SpellsPart id kind bytes None = IsFalse (is_inner id && kind == 12) × SpellsNumberField id kind bytes None

-- the bytes are a page header with these fields
abbrev pub SpellsHeader : List ℕ → FieldValues Part → Type 0
SpellsHeader bytes parts = SpellsStruct SpellsPart bytes parts
