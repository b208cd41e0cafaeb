-- Thrift's compact protocol: what bytes begin with, by cases on the bytes.
use Rattle.std.specs.Prelude.{ℕ, ◌/◌, ◌%◌, ◌^◌, ◌==◌, ◌&&◌, ◌||◌, nat_lt, nat_le, int_le, Bool, if◌then◌else◌, ℤ, pos, negsuc, ◌+ℤ◌, Option, Some, None, Result, Ok, Err, List, [], ◌∷◌, length, take, drop}
use Rattle.dk_grammar.specs.Varint.{varint_at}
use Rattle.dk_grammar.specs.Zigzag.{zigzag_of}
use Rattle.dk_grammar.specs.declared.thrift.Field.{Field}
use Rattle.dk_grammar.specs.declared.thrift.Field.TheVariants.{End, Next}
use Rattle.dk_grammar.specs.declared.thrift.ListHead.{ListHead}
use Rattle.dk_grammar.specs.declared.thrift.Flaw.{Flaw}
use Rattle.dk_grammar.specs.declared.thrift.Flaw.TheVariants.{Short, BadType}

-- What bytes begin with: a value and the bytes behind it, or the flaw.
abbrev pub Front : Type 0 → Type 0
Front A = Result (A × List ℕ) Flaw

-- what stands there may not stand there
abbrev pub bad_at : {A : Type 0} → List ℕ → Result A Flaw
bad_at bytes = Err (BadType (length bytes))

-- one after the other
infixl 10 ◌>>=◌
abbrev pub ◌>>=◌ : {A B : Type 0} → Result A Flaw → (A → Result B Flaw) → Result B Flaw
(Ok x) >>= f = f x
(Err flaw) >>= f = Err flaw

-- a varint has at most 64 bits
abbrev pub of_64_bits : List ℕ → Option (ℕ × List ℕ) → Front ℕ
of_64_bits bytes None = Err Short
of_64_bits bytes (Some x) = if nat_lt x.0 (2 ^ 64) then Ok (x.0, x.1) else bad_at bytes

abbrev pub number_at : List ℕ → Front ℕ
number_at bytes = of_64_bits bytes (varint_at bytes)

-- whole numbers are zigzag varints
abbrev pub whole_at : List ℕ → Front ℤ
whole_at bytes = number_at bytes >>= λ x. Ok (zigzag_of x.0, x.1)

-- so many bytes
abbrev pub bytes_at : ℕ → List ℕ → Front (List ℕ)
bytes_at n bytes = if nat_le n (length bytes) then Ok (take n bytes, drop n bytes) else Err Short

-- a length, and then so many bytes
abbrev pub binary_at : List ℕ → Front (List ℕ)
binary_at bytes = number_at bytes >>= λ x. bytes_at x.0 x.1

-- the numbers of kinds are 1 to 12
abbrev pub is_kind : ℕ → Bool
is_kind n = nat_le 1 n && nat_le n 12

-- ids of fields have 16 bits
abbrev pub is_id : ℤ → Bool
is_id id = int_le (negsuc 32767) id && int_le id (pos 32767)

-- an id in full
abbrev pub id_at : List ℕ → Front ℤ
id_at bytes = whole_at bytes >>= λ x. if is_id x.0 then Ok (x.0, x.1) else bad_at bytes

-- The header of a field behind the field `last`, or the zero byte that ends the struct. The header is one byte, 16 times the
-- step from the last id and the kind, or the kind alone and then the id.
abbrev pub field_at : ℤ → List ℕ → Front Field
field_at last [] = Err Short
field_at last (b ∷ bs) =
    if b == 0 then Ok (End, bs) else
    if is_kind (b % 16) then (
    if b / 16 == 0 then (id_at bs >>= λ x. Ok (Next x.0 (b % 16), x.1)) else
    if is_id (last +ℤ pos (b / 16)) then Ok (Next (last +ℤ pos (b / 16)) (b % 16), bs) else bad_at (b ∷ bs))
    else bad_at (b ∷ bs)

-- a count has 32 bits
abbrev pub count_at : List ℕ → Front ℕ
count_at bytes = number_at bytes >>= λ x. if nat_lt x.0 (2 ^ 32) then Ok (x.0, x.1) else bad_at bytes

abbrev pub head : ℕ → ℕ → ListHead
head count kind = record { count = count; kind = kind }

-- The header of a list or a set is one byte, 16 times the count and the kind, or 15 in place of the count, which then follows.
-- A list of no elements needs no kind: the byte 0 is a header too.
abbrev pub list_at : List ℕ → Front ListHead
list_at [] = Err Short
list_at (b ∷ bs) =
    if is_kind (b % 16) || b == 0 then (
    if nat_lt (b / 16) 15 then Ok (head (b / 16) (b % 16), bs) else (count_at bs >>= λ x. Ok (head x.0 (b % 16), x.1)))
    else bad_at (b ∷ bs)
