-- What the header of a page says (Apache Parquet, parquet.thrift, PageHeader), from the fields of its structs by id.
use Rattle.std.specs.Prelude.{ℕ, if◌then◌else◌, ℤ, pos, Option, Some, None, option_map, Ok, Err, List}
use Rattle.std.specs.Ordering.{int_eq}
use Rattle.dk_grammar.specs.Thrift.{Front}
use Rattle.dk_grammar.specs.PageHeaders.{Part, part_meaning, numbers_in, inner_under}
use Rattle.dk_grammar.specs.Structs.{FieldValues, struct_at, last_under}
use Rattle.dk_pqmodel.specs.Footer.{◌>=◌, int32, natural32}
use Rattle.dk_pqmodel.specs.declared.page.PageHeader.{PageHeader}
use Rattle.dk_pqmodel.specs.declared.page.PageKind.TheVariants.{DataV1, DataV2, Dictionary}

-- the encoding of levels in pages that have no code for it, RLE
abbrev pub rle : ℤ
rle = pos 3

-- DataPageHeader: values, encoding, the codes of definition and repetition levels
abbrev pub data_header : ℕ → Option ℤ → Option ℤ → Option ℤ → Option ℤ → Option PageHeader
data_header size count code of_definitions of_repetitions =
    count >= natural32 >= λ values. code >= int32 >= λ encoding. of_definitions >= int32 >= λ def_code. of_repetitions >= int32 >= λ rep_code.
    Some (record { kind = DataV1; size = size; values = values; encoding = encoding; rep_code = rep_code; def_code = def_code; rep_bytes = 0; def_bytes = 0 })

-- DictionaryPageHeader: entries, encoding
abbrev pub dictionary_header : ℕ → Option ℤ → Option ℤ → Option PageHeader
dictionary_header size count code =
    count >= natural32 >= λ values. code >= int32 >= λ encoding.
    Some (record { kind = Dictionary; size = size; values = values; encoding = encoding; rep_code = rle; def_code = rle; rep_bytes = 0; def_bytes = 0 })

-- DataPageHeaderV2: values, encoding, the bytes of definition and repetition levels
abbrev pub data_header_v2 : ℕ → Option ℤ → Option ℤ → Option ℤ → Option ℤ → Option PageHeader
data_header_v2 size count code of_definitions of_repetitions =
    count >= natural32 >= λ values. code >= int32 >= λ encoding. of_definitions >= natural32 >= λ def_bytes. of_repetitions >= natural32 >= λ rep_bytes.
    Some (record { kind = DataV2; size = size; values = values; encoding = encoding; rep_code = rle; def_code = rle; rep_bytes = rep_bytes; def_bytes = def_bytes })

-- The page's type picks the inner header: 0 a data page, 2 a dictionary page, 3 a data page of the second version. Other types are no
-- pages of a column.
abbrev pub typed_header : ℤ → Option PageHeader → Option PageHeader → Option PageHeader → Option PageHeader
typed_header type first dictionary second = if int_eq type (pos 0) then first else if int_eq type (pos 2) then dictionary else if int_eq type (pos 3) then second else None

-- PageHeader: field 1 is the type, field 3 the size of the body in the file; the inner headers are the fields 5, 7 and 8
abbrev pub inner_header : ℤ → ℕ → FieldValues ℤ → FieldValues ℤ → FieldValues ℤ → Option PageHeader
inner_header type size first dictionary second =
    typed_header type
    (data_header size (last_under (pos 1) first) (last_under (pos 2) first) (last_under (pos 3) first) (last_under (pos 4) first))
    (dictionary_header size (last_under (pos 1) dictionary) (last_under (pos 2) dictionary))
    (data_header_v2 size (last_under (pos 1) second) (last_under (pos 4) second) (last_under (pos 5) second) (last_under (pos 6) second))

abbrev pub page_header_of : FieldValues Part → Option PageHeader
page_header_of parts =
    last_under (pos 1) (numbers_in parts) >= λ type. last_under (pos 3) (numbers_in parts) >= natural32 >= λ size.
    inner_header type size (inner_under (pos 5) parts) (inner_under (pos 7) parts) (inner_under (pos 8) parts)

abbrev pub page_header_in : Front (FieldValues Part) → Option (PageHeader × List ℕ)
page_header_in (Err flaw) = None
page_header_in (Ok x) = option_map (λ header. (header, x.1)) (page_header_of x.0)

-- the page header that the bytes begin with, and the bytes behind it
abbrev pub header_at : List ℕ → Option (PageHeader × List ℕ)
header_at bytes = page_header_in (struct_at part_meaning bytes)
