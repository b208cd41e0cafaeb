-- What the footer and the page headers alone say against reading a column: a codec, or an encoding that isn't read.
use Rattle.std.specs.Prelude.{ℕ, zero, suc, ◌-◌, ◌==◌, ◌||◌, Bool, if◌then◌else◌, ℤ, pos, Option, Some, None, option_map, option_and_then, unwrap_or, List, [], ◌∷◌, length}
use Rattle.std.specs.Ordering.{int_eq}
use Rattle.dk_grammar.specs.Structs.{first_of_two}
use Rattle.dk_pqmodel.specs.Shape.{Leaf, flag, int32, int64, chars}
use Rattle.dk_pqmodel.specs.Projection.{Path}
use Rattle.dk_pqmodel.specs.Footer.{Chunk, RowGroup, is_path}
use Rattle.dk_pqmodel.specs.FilePages.{ColumnAt}
use Rattle.dk_pqmodel.specs.Pages.{Page, page_at}
use Rattle.dk_pqmodel.specs.declared.page.PageKind.{PageKind}
use Rattle.dk_pqmodel.specs.declared.page.PageKind.TheVariants.{DataV1, DataV2, Dictionary}

-- the chunk of a path
abbrev pub chunk_at : Path → List (Path × Chunk) → Option Chunk
chunk_at path [] = None
chunk_at path (c ∷ cs) = if is_path path c.0 then Some c.1 else chunk_at path cs

-- ---- codecs

-- a codec other than UNCOMPRESSED, 0
abbrev pub codec_of : Chunk → Option ℤ
codec_of chunk = if int_eq chunk.codec (pos 0) then None else Some chunk.codec

-- the first in the column's chunks, in the order of the row groups
abbrev pub codec_in : Path → List RowGroup → Option ℤ
codec_in path [] = None
codec_in path (g ∷ gs) = first_of_two (option_and_then codec_of (chunk_at path g.columns)) (codec_in path gs)

-- the first of the columns that has one, with it
abbrev pub first_compressed : List ColumnAt → List RowGroup → Option (Path × ℤ)
first_compressed [] groups = None
first_compressed (c ∷ cs) groups = first_of_two (option_map (λ codec. (c.path, codec)) (codec_in c.path groups)) (first_compressed cs groups)

-- ---- encodings

-- PLAIN, 0, and RLE, 3, of flags; PLAIN and the two of dictionaries, 2 and 8, of all else
abbrev pub is_value_code : Leaf → ℤ → Bool
is_value_code flag code = int_eq code (pos 0) || int_eq code (pos 3)
is_value_code int32 code = int_eq code (pos 0) || int_eq code (pos 2) || int_eq code (pos 8)
is_value_code int64 code = int_eq code (pos 0) || int_eq code (pos 2) || int_eq code (pos 8)
is_value_code chars code = int_eq code (pos 0) || int_eq code (pos 2) || int_eq code (pos 8)

-- a dictionary's entries are PLAIN, under either code
abbrev pub is_read_code : PageKind → Leaf → ℤ → Bool
is_read_code DataV1 kind code = is_value_code kind code
is_read_code DataV2 kind code = is_value_code kind code
is_read_code Dictionary kind code = int_eq code (pos 0) || int_eq code (pos 2)

abbrev pub unless : Bool → ℤ → Option ℤ
unless b code = if b then None else Some code

-- levels are RLE, 3, where there are any
abbrev pub is_level_code : ℕ → ℤ → Bool
is_level_code greatest code = (greatest == 0) || int_eq code (pos 3)

-- the first encoding of a page that isn't read: of its values, of its repetition levels, of its definition levels
abbrev pub unread_code : ColumnAt → Page → Option ℤ
unread_code column page =
    first_of_two (unless (is_read_code page.kind column.kind page.encoding) page.encoding)
    (first_of_two (unless (is_level_code column.rep page.rep_code) page.rep_code) (unless (is_level_code column.def page.def_code) page.def_code))

-- how many values of the column a page holds
abbrev pub values_on_page : PageKind → ℕ → ℕ
values_on_page DataV1 values = values
values_on_page DataV2 values = values
values_on_page Dictionary values = 0

-- The pages from a place on are looked at as far as one stands there and data pages have had fewer values than are wanted. Each
-- takes at least a byte, so there are at most as many as bytes.
abbrev pub unread_from : ℕ → List ℕ → ColumnAt → ℕ → ℕ → Option ℤ
unread_from zero before column place wanted = None
unread_from (suc most) before column place wanted =
    if wanted == 0 then None else
    option_and_then (λ page. first_of_two (unread_code column page) (unread_from most before column page.next (wanted - values_on_page page.kind page.values))) (page_at before place)

-- where a chunk's pages begin
abbrev pub first_place : Chunk → ℕ
first_place chunk = unwrap_or chunk.dictionary_page chunk.first_page

abbrev pub unread_in : List ℕ → ColumnAt → Chunk → Option ℤ
unread_in before column chunk = unread_from (length before) before column (first_place chunk) chunk.values

-- the first in the column's chunks, in the order of the row groups
abbrev pub code_in : List ℕ → ColumnAt → List RowGroup → Option ℤ
code_in before column [] = None
code_in before column (g ∷ gs) = first_of_two (option_and_then (unread_in before column) (chunk_at column.path g.columns)) (code_in before column gs)

-- the first of the columns that has one, with it
abbrev pub first_unread : List ℕ → List ColumnAt → List RowGroup → Option (Path × ℤ)
first_unread before [] groups = None
first_unread before (c ∷ cs) groups = first_of_two (option_map (λ code. (c.path, code)) (code_in before c groups)) (first_unread before cs groups)
