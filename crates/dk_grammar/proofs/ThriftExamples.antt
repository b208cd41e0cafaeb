-- Worked bytes, by computing the definitions.
use Rattle.std.proofs.Common.{◌≡◌, ◌<◌, pos, negsuc, [], ◌∷◌, Some, None, Ok, Err, refl, arith}
use Rattle.dk_grammar.specs.Varint.{IsVarint, varint_at, varint_bytes, groups}
use Rattle.dk_grammar.specs.Zigzag.{zigzag, zigzag_of}
use Rattle.dk_grammar.specs.Thrift.{field_at, head, list_at, whole_at}
use Rattle.dk_grammar.specs.Spelling.{field_bytes, list_bytes}
use Rattle.dk_grammar.specs.Passed.{passed_at}
use Rattle.dk_grammar.specs.declared.thrift.Field.TheVariants.{End, Next}
use Rattle.dk_grammar.specs.declared.thrift.Flaw.TheVariants.{Short, BadType}

-- 300 is 172 and 2, whether or not more groups of 0 follow
three_hundred : varint_at (172 ∷ 2 ∷ 7 ∷ []) ≡ Some (300, 7 ∷ [])
three_hundred = refl

longer_three_hundred : varint_at (172 ∷ 130 ∷ 128 ∷ 0 ∷ []) ≡ Some (300, [])
longer_three_hundred = refl

written_three_hundred : varint_bytes 300 ≡ 172 ∷ 2 ∷ []
unfolding groups
written_three_hundred = refl

-- the last byte is below 128
no_varint : IsVarint (128 ∷ []) 128 → ⊥
no_varint s = let never : 128 < 128 = s.0 in absurd (omega arith)

cut_varint : varint_at (172 ∷ 130 ∷ []) ≡ None
cut_varint = refl

below_zero : zigzag_of 3 ≡ negsuc 1
below_zero = refl

below_zero_written : zigzag (negsuc 1) ≡ 3
below_zero_written = refl

above_zero_written : zigzag (pos 1) ≡ 2
above_zero_written = refl

-- a field of kind 5 with id 1 and value 2, and the end
first_field : field_at (pos 0) (0x15 ∷ 4 ∷ 0 ∷ []) ≡ Ok (Next (pos 1) 5, 4 ∷ 0 ∷ [])
first_field = refl

its_value : whole_at (4 ∷ 0 ∷ []) ≡ Ok (pos 2, 0 ∷ [])
its_value = refl

its_end : field_at (pos 1) (0 ∷ []) ≡ Ok (End, [])
its_end = refl

its_value_cut_off : whole_at [] ≡ Err Short
its_value_cut_off = refl

-- a step of 16 wants the id in full
far_field : field_at (pos 1) (5 ∷ 34 ∷ []) ≡ Ok (Next (pos 17) 5, [])
far_field = refl

far_field_written : field_bytes (pos 1) (pos 17) 5 ≡ 5 ∷ 34 ∷ []
unfolding groups
far_field_written = refl

near_field_written : field_bytes (pos 1) (pos 16) 5 ≡ 0xf5 ∷ []
near_field_written = refl

-- a list of 15 texts
long_list : list_at (0xf8 ∷ 15 ∷ []) ≡ Ok (head 15 8, [])
long_list = refl

-- 14 elements have room beside the kind, 15 have none
short_list : list_at (0xe8 ∷ 15 ∷ []) ≡ Ok (head 14 8, 15 ∷ [])
short_list = refl

-- the byte 0 is an empty list; it is read and not written
list_of_none : list_at (0 ∷ 8 ∷ []) ≡ Ok (head 0 0, 8 ∷ [])
list_of_none = refl

none_passed_over : passed_at 9 (0 ∷ 8 ∷ []) ≡ Ok (8 ∷ [])
none_passed_over = refl

none_written : list_bytes 0 12 ≡ 12 ∷ []
none_written = refl

-- elements of no kind, a kind that there isn't, and the long form without one
elements_of_no_kind : list_at (0x10 ∷ 8 ∷ []) ≡ Err (BadType 2)
elements_of_no_kind = refl

none_of_kind_13 : list_at (13 ∷ []) ≡ Err (BadType 1)
none_of_kind_13 = refl

long_form_of_no_kind : list_at (0xf0 ∷ 0 ∷ []) ≡ Err (BadType 2)
long_form_of_no_kind = refl

-- a double has eight bytes
double_passed_over : passed_at 7 (1 ∷ 2 ∷ 3 ∷ 4 ∷ 5 ∷ 6 ∷ 7 ∷ 8 ∷ 9 ∷ []) ≡ Ok (9 ∷ [])
double_passed_over = refl

double_cut_off : passed_at 7 (1 ∷ 2 ∷ 3 ∷ 4 ∷ 5 ∷ 6 ∷ 7 ∷ []) ≡ Err Short
double_cut_off = refl

-- a struct of a flag, a number and a struct of an empty text
struct_passed_over : passed_at 12 (0x11 ∷ 0x15 ∷ 2 ∷ 0x1c ∷ 0x18 ∷ 0 ∷ 0 ∷ 0 ∷ 9 ∷ []) ≡ Ok (9 ∷ [])
struct_passed_over = refl

-- a map from flags to doubles, cut off inside the double
map_cut_off : passed_at 11 (1 ∷ 0x17 ∷ 1 ∷ 0 ∷ 0 ∷ 0 ∷ []) ≡ Err Short
map_cut_off = refl

-- there is no kind 13
no_kind : passed_at 9 (0x1d ∷ 0 ∷ []) ≡ Err (BadType 2)
no_kind = refl
