-- The parts of a footer, by cases on the bytes.
use Rattle.std.specs.Prelude.{ℕ, if◌then◌else◌, ℤ, pos, Ok, List}
use Rattle.std.specs.Str.{is_utf8}
use Rattle.dk_grammar.specs.Thrift.{Front, ◌>>=◌, bad_at, binary_at}
use Rattle.dk_grammar.specs.Structs.{Meaning, struct_at, number_meaning}
use Rattle.dk_grammar.specs.Lists.{Either, list_of, held_or, read_turned}
use Rattle.dk_pqmodel.specs.Projection.{Path}
use Rattle.dk_pqmodel.specs.Footer.{MetaFields, meta_fields, ChunkFields, chunk_fields, GroupFields, group_fields, ElementFields, element_fields, FileFields, file_fields}

-- a name is UTF-8
abbrev pub text_at : List ℕ → Front (List ℕ)
text_at bytes = binary_at bytes >>= λ x. if is_utf8 x.0 then Ok (x.0, x.1) else bad_at bytes

abbrev pub path_at : List ℕ → Front Path
path_at = list_of 8 text_at

-- what counts of the fields of each struct, and the struct
abbrev pub meta_meaning : Meaning (Either Path ℤ)
meta_meaning = held_or (pos 3) 9 path_at number_meaning

abbrev pub meta_at : List ℕ → Front MetaFields
meta_at = read_turned meta_fields (struct_at meta_meaning)

abbrev pub chunk_meaning : Meaning (Either MetaFields ℤ)
chunk_meaning = held_or (pos 3) 12 meta_at number_meaning

abbrev pub column_chunk_at : List ℕ → Front ChunkFields
column_chunk_at = read_turned chunk_fields (struct_at chunk_meaning)

abbrev pub group_meaning : Meaning (Either (List ChunkFields) ℤ)
group_meaning = held_or (pos 1) 9 (list_of 12 column_chunk_at) number_meaning

abbrev pub group_at : List ℕ → Front GroupFields
group_at = read_turned group_fields (struct_at group_meaning)

abbrev pub element_meaning : Meaning (Either (List ℕ) ℤ)
element_meaning = held_or (pos 4) 8 text_at number_meaning

abbrev pub schema_element_at : List ℕ → Front ElementFields
schema_element_at = read_turned element_fields (struct_at element_meaning)

abbrev pub file_meaning : Meaning (Either (List ElementFields) (Either (List GroupFields) ℤ))
file_meaning = held_or (pos 2) 9 (list_of 12 schema_element_at) (held_or (pos 4) 9 (list_of 12 group_at) number_meaning)

abbrev pub file_at : List ℕ → Front FileFields
file_at = read_turned file_fields (struct_at file_meaning)
