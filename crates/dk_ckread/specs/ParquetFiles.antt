-- Small Parquet files, byte by byte (Apache Parquet, "File format"): of a protocol and a table's metadata, of one data file, of a sidecar's
-- name, and of a version with a protocol and metadata.
use Rattle.std.specs.Prelude.{ℕ, ℤ, pos, List, [], ◌∷◌, ◌++◌, length, codes, flat_map}
use Rattle.dk_grammar.specs.Plain.{little}
use Rattle.dk_grammar.specs.Spelling.{whole_bytes, binary_bytes, field_bytes, list_bytes, end_bytes}
use Rattle.dk_pqmodel.specs.FooterBytes.{magic}

-- ---- structs

-- a field of a struct: its id, its kind and its bytes
pub record SpelledField : Type 0 where
  pub id : ℤ
  pub kind : ℕ
  pub bytes : List ℕ

abbrev fields_from : ℤ → List SpelledField → List ℕ
fields_from last [] = end_bytes
fields_from last (x ∷ xs) = field_bytes last x.id x.kind ++ (x.bytes ++ fields_from x.id xs)

abbrev pub struct : List SpelledField → List ℕ
struct fields = fields_from (pos 0) fields

-- numbers of 32 and of 64 bits, texts, lists and structs
abbrev int : ℕ → ℕ → SpelledField
int id n = record { id = pos id; kind = 5; bytes = whole_bytes (pos n) }

abbrev long : ℕ → ℕ → SpelledField
long id n = record { id = pos id; kind = 6; bytes = whole_bytes (pos n) }

abbrev text : ℕ → List ℕ → SpelledField
text id t = record { id = pos id; kind = 8; bytes = binary_bytes t }

abbrev list : ℕ → ℕ → List (List ℕ) → SpelledField
list id kind elements = record { id = pos id; kind = 9; bytes = list_bytes (length elements) kind ++ flat_map (λ bytes. bytes) elements }

abbrev inner : ℕ → List ℕ → SpelledField
inner id bytes = record { id = pos id; kind = 12; bytes = bytes }

-- ---- pages

-- a data page of the first version: so many values in PLAIN, and levels in RLE
abbrev pub header : ℕ → ℕ → List ℕ
header values size = struct (int 1 0 ∷ int 2 size ∷ int 3 size ∷ inner 5 (struct (int 1 values ∷ int 2 0 ∷ int 3 3 ∷ int 4 3 ∷ [])) ∷ [])

abbrev pub page : ℕ → List ℕ → List ℕ
page values body = header values (length body) ++ body

-- Of two rows the first has a value, or the second has: two runs of one level each, behind their length.
abbrev pub in_first : List ℕ
in_first = 2 ∷ 1 ∷ 2 ∷ 0 ∷ []

abbrev pub in_second : List ℕ
in_second = 2 ∷ 0 ∷ 2 ∷ 1 ∷ []

abbrev pub leveled : List ℕ → List ℕ → List ℕ
leveled runs values = (little 4 (length runs) ++ runs) ++ values

abbrev pub plain_text : List ℕ → List ℕ
plain_text t = little 4 (length t) ++ t

-- ---- footers

-- elements of the schema: the root, groups and their leaves, which are required
abbrev root : ℕ → List ℕ
root children = struct (text 4 (codes "schema") ∷ int 5 children ∷ [])

abbrev group : ℕ → List ℕ → ℕ → List ℕ
group repetition name children = struct (int 3 repetition ∷ text 4 name ∷ int 5 children ∷ [])

abbrev pub leaf : ℕ → List ℕ → List ℕ
leaf physical name = struct (int 1 physical ∷ int 3 0 ∷ text 4 name ∷ [])

-- a chunk of so many values, whose page has this place and so many bytes
abbrev pub chunk : ℕ → List ℕ → List ℕ → ℕ → ℕ → ℕ → List ℕ
chunk physical outer name values size place =
    struct (long 2 0 ∷ inner 3 (struct (int 1 physical ∷ list 2 5 (whole_bytes (pos 0) ∷ whole_bytes (pos 3) ∷ []) ∷ list 3 8 (binary_bytes outer ∷ binary_bytes name ∷ [])
    ∷ int 4 0 ∷ long 5 values ∷ long 6 size ∷ long 7 size ∷ long 9 place ∷ [])) ∷ [])

-- a footer of one row group
abbrev pub footer : List (List ℕ) → List (List ℕ) → ℕ → ℕ → List ℕ
footer elements chunks size rows =
    struct (int 1 1 ∷ list 2 12 elements ∷ long 3 rows ∷ list 4 12 (struct (list 1 12 chunks ∷ long 2 size ∷ long 3 rows ∷ []) ∷ []) ∷ [])

abbrev pub framed : List ℕ → List ℕ → List ℕ
framed before part = before ++ (part ++ (little 4 (length part) ++ magic))

-- ---- a protocol and a table's metadata

abbrev pub id_page : List ℕ
id_page = page 2 (leveled in_second (plain_text (codes "t")))

abbrev pub schema_page : List ℕ
schema_page = page 2 (leveled in_second (plain_text (codes "s")))

abbrev pub version_page : List ℕ
version_page = page 2 (leveled in_first (little 4 1))

-- the pages stand at 4, 34, 64 and 93
abbrev pub head_pages : List ℕ
head_pages = magic ++ (id_page ++ (schema_page ++ (version_page ++ version_page)))

abbrev pub head_footer : List ℕ
head_footer = footer
    (root 2
    ∷ group 1 (codes "metaData") 2 ∷ leaf 6 (codes "id") ∷ leaf 6 (codes "schemaString")
    ∷ group 1 (codes "protocol") 2 ∷ leaf 1 (codes "minReaderVersion") ∷ leaf 1 (codes "minWriterVersion")
    ∷ [])
    (chunk 6 (codes "metaData") (codes "id") 2 30 4
    ∷ chunk 6 (codes "metaData") (codes "schemaString") 2 30 34
    ∷ chunk 1 (codes "protocol") (codes "minReaderVersion") 2 29 64
    ∷ chunk 1 (codes "protocol") (codes "minWriterVersion") 2 29 93
    ∷ [])
    118 2

abbrev pub head_file : List ℕ
head_file = framed head_pages head_footer

-- ---- a data file

abbrev pub path_page : List ℕ
path_page = page 1 (plain_text (codes "a"))

abbrev pub number_page : ℕ → List ℕ
number_page n = page 1 (little 8 n)

-- one flag that isn't set
abbrev pub flag_page : List ℕ
flag_page = page 1 (0 ∷ [])

-- the pages stand at 4, 26, 51 and 76
abbrev pub add_pages : List ℕ
add_pages = magic ++ (path_page ++ (number_page 1 ++ (number_page 5 ++ flag_page)))

abbrev pub add_footer : List ℕ
add_footer = footer
    (root 1 ∷ group 0 (codes "add") 4 ∷ leaf 6 (codes "path") ∷ leaf 2 (codes "size") ∷ leaf 2 (codes "modificationTime") ∷ leaf 0 (codes "dataChange") ∷ [])
    (chunk 6 (codes "add") (codes "path") 1 22 4
    ∷ chunk 2 (codes "add") (codes "size") 1 25 26
    ∷ chunk 2 (codes "add") (codes "modificationTime") 1 25 51
    ∷ chunk 0 (codes "add") (codes "dataChange") 1 18 76
    ∷ [])
    90 1

abbrev pub add_file : List ℕ
add_file = framed add_pages add_footer

-- ---- a sidecar's name

abbrev pub name_page : List ℕ
name_page = page 1 (plain_text (codes "s.parquet"))

-- the pages stand at 4, 34 and 59
abbrev pub side_pages : List ℕ
side_pages = magic ++ (name_page ++ (number_page 1 ++ number_page 2))

abbrev pub side_footer : List ℕ
side_footer = footer
    (root 1 ∷ group 0 (codes "sidecar") 3 ∷ leaf 6 (codes "path") ∷ leaf 2 (codes "sizeInBytes") ∷ leaf 2 (codes "modificationTime") ∷ [])
    (chunk 6 (codes "sidecar") (codes "path") 1 30 4
    ∷ chunk 2 (codes "sidecar") (codes "sizeInBytes") 1 25 34
    ∷ chunk 2 (codes "sidecar") (codes "modificationTime") 1 25 59
    ∷ [])
    80 1

abbrev pub side_file : List ℕ
side_file = framed side_pages side_footer

-- ---- a version, a protocol and a table's metadata

-- of three rows the first, the second or the third has a value
abbrev pub in_first_of_3 : List ℕ
in_first_of_3 = 2 ∷ 1 ∷ 4 ∷ 0 ∷ []

abbrev pub in_second_of_3 : List ℕ
in_second_of_3 = 2 ∷ 0 ∷ 2 ∷ 1 ∷ 2 ∷ 0 ∷ []

abbrev pub in_third_of_3 : List ℕ
in_third_of_3 = 4 ∷ 0 ∷ 2 ∷ 1 ∷ []

abbrev pub top_id_page : List ℕ
top_id_page = page 3 (leveled in_third_of_3 (plain_text (codes "t")))

abbrev pub top_schema_page : List ℕ
top_schema_page = page 3 (leveled in_third_of_3 (plain_text (codes "s")))

abbrev pub top_protocol_page : List ℕ
top_protocol_page = page 3 (leveled in_second_of_3 (little 4 1))

abbrev pub top_version_page : List ℕ
top_version_page = page 3 (leveled in_first_of_3 (little 8 0))

-- the pages stand at 4, 34, 64, 95 and 126
abbrev pub top_pages : List ℕ
top_pages = magic ++ (top_id_page ++ (top_schema_page ++ (top_protocol_page ++ (top_protocol_page ++ top_version_page))))

abbrev pub top_footer : List ℕ
top_footer = footer
    (root 3
    ∷ group 1 (codes "metaData") 2 ∷ leaf 6 (codes "id") ∷ leaf 6 (codes "schemaString")
    ∷ group 1 (codes "protocol") 2 ∷ leaf 1 (codes "minReaderVersion") ∷ leaf 1 (codes "minWriterVersion")
    ∷ group 1 (codes "checkpointMetadata") 1 ∷ leaf 2 (codes "version")
    ∷ [])
    (chunk 6 (codes "metaData") (codes "id") 3 30 4
    ∷ chunk 6 (codes "metaData") (codes "schemaString") 3 30 34
    ∷ chunk 1 (codes "protocol") (codes "minReaderVersion") 3 31 64
    ∷ chunk 1 (codes "protocol") (codes "minWriterVersion") 3 31 95
    ∷ chunk 2 (codes "checkpointMetadata") (codes "version") 3 33 126
    ∷ [])
    155 3

abbrev pub top_file : List ℕ
top_file = framed top_pages top_footer
