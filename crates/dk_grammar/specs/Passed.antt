-- What lies behind a value of Thrift's compact protocol that is passed over.
use Rattle.std.specs.Prelude.{ℕ, zero, suc, ◌/◌, ◌%◌, ◌==◌, ◌&&◌, nat_le, if◌then◌else◌, ℤ, pos, Result, Ok, Err, List, [], ◌∷◌, length}
use Rattle.dk_grammar.specs.Thrift.{Front, ◌>>=◌, bad_at, number_at, bytes_at, binary_at, field_at, list_at, count_at, is_kind}
use Rattle.dk_grammar.specs.declared.thrift.Field.{Field}
use Rattle.dk_grammar.specs.declared.thrift.Field.TheVariants.{End, Next}
use Rattle.dk_grammar.specs.declared.thrift.Kind.{Kind}
use Rattle.dk_grammar.specs.declared.thrift.Kind.TheVariants as kinds
use Rattle.dk_grammar.specs.declared.thrift.Flaw.{Flaw}
use Rattle.dk_grammar.specs.declared.thrift.Flaw.TheVariants.{Short, TooDeep}

-- the bytes behind a value, or the flaw
abbrev pub Rest : Type 0
Rest = Result (List ℕ) Flaw

abbrev pub rest_of : {A : Type 0} → Front A → Rest
rest_of front = front >>= λ x. Ok x.1

-- the kind of a number from 1 to 12
abbrev pub kind_numbered : ℕ → Kind
kind_numbered n =
    if nat_le n 2 then kinds.Flag else
    if n == 3 then kinds.Byte else
    if nat_le n 6 then kinds.Whole else
    if n == 7 then kinds.Double else
    if n == 8 then kinds.Binary else
    if nat_le n 10 then kinds.List else
    if n == 11 then kinds.Map else kinds.Struct

-- so many values behind one another
abbrev pub each : (List ℕ → Rest) → ℕ → List ℕ → Rest
each pass zero bytes = Ok bytes
each pass (suc n) bytes = pass bytes >>= each pass n

-- `pass` says what lies behind an element of a kind
abbrev pub list_passed : (Kind → List ℕ → Rest) → List ℕ → Rest
list_passed pass bytes = list_at bytes >>= λ x. each (pass (kind_numbered x.0.kind)) x.0.count x.1

abbrev pub entry_passed : (Kind → List ℕ → Rest) → Kind → Kind → List ℕ → Rest
entry_passed pass key value bytes = pass key bytes >>= pass value

-- an empty map is its count alone; else a byte has 16 times the kind of the keys and the kind of the values
abbrev pub entries_passed : (Kind → List ℕ → Rest) → ℕ → List ℕ → Rest
entries_passed pass zero bytes = Ok bytes
entries_passed pass (suc n) [] = Err Short
entries_passed pass (suc n) (b ∷ bs) =
    if is_kind (b / 16) && is_kind (b % 16) then each (entry_passed pass (kind_numbered (b / 16)) (kind_numbered (b % 16))) (suc n) bs
    else bad_at (b ∷ bs)

abbrev pub map_passed : (Kind → List ℕ → Rest) → List ℕ → Rest
map_passed pass bytes = count_at bytes >>= λ x. entries_passed pass x.0 x.1

-- a flag in a field stands in the header
abbrev pub value_passed : (Kind → List ℕ → Rest) → Kind → List ℕ → Rest
value_passed pass kinds.Flag bytes = Ok bytes
value_passed pass kind bytes = pass kind bytes

-- the fields behind the field `last`; each takes at least a byte, so there are at most as many as bytes
abbrev pub field_passed : (Kind → List ℕ → Rest) → (ℤ → List ℕ → Rest) → Field → List ℕ → Rest
field_passed pass go_on End bytes = Ok bytes
field_passed pass go_on (Next id kind) bytes = value_passed pass (kind_numbered kind) bytes >>= go_on id

abbrev pub fields_passed : (Kind → List ℕ → Rest) → ℕ → ℤ → List ℕ → Rest
fields_passed pass zero last bytes = Err Short
fields_passed pass (suc most) last bytes = field_at last bytes >>= λ x. field_passed pass (fields_passed pass most) x.0 x.1

abbrev pub struct_passed : (Kind → List ℕ → Rest) → List ℕ → Rest
struct_passed pass bytes = fields_passed pass (length bytes) (pos 0) bytes

-- no struct or container may begin here
abbrev pub too_deep : List ℕ → Rest
too_deep [] = Err Short
too_deep (b ∷ bs) = Err (TooDeep (length (b ∷ bs)))

-- An element of a list or a map, with at most so many levels of structs and containers.
abbrev pub element_passed : ℕ → Kind → List ℕ → Rest
element_passed levels kinds.Flag bytes = rest_of (bytes_at 1 bytes)
element_passed levels kinds.Byte bytes = rest_of (bytes_at 1 bytes)
element_passed levels kinds.Whole bytes = rest_of (number_at bytes)
element_passed levels kinds.Double bytes = rest_of (bytes_at 8 bytes)
element_passed levels kinds.Binary bytes = rest_of (binary_at bytes)
element_passed zero kind bytes = too_deep bytes
element_passed (suc levels) kinds.List bytes = list_passed (element_passed levels) bytes
element_passed (suc levels) kinds.Map bytes = map_passed (element_passed levels) bytes
element_passed (suc levels) kinds.Struct bytes = struct_passed (element_passed levels) bytes

-- the value of a field whose kind has this number, with at most 32 levels
abbrev pub passed_at : ℕ → List ℕ → Rest
passed_at kind bytes = if is_kind kind then value_passed (element_passed 32) (kind_numbered kind) bytes else bad_at bytes
