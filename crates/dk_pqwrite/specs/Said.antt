-- What the structs of a written footer say: beside what is read of them, their encodings, their sizes in bytes and their converted types
-- (parquet.thrift). Other readers go by these.
use Rattle.std.specs.Prelude.{ℤ, pos, ℕ, Option, List}
use Rattle.dk_grammar.specs.Grammar.{SpellsWhole}
use Rattle.dk_grammar.specs.Structs.{FieldValues, SpellsStruct, SpellsNumberField}
use Rattle.dk_grammar.specs.Lists.{Either, others_in, SpellsListOf, SpellsHeldOr, SpelledBy}
use Rattle.dk_pqmodel.specs.Projection.{Path}
use Rattle.dk_pqmodel.specs.Footer.{MetaFields, meta_fields, ElementFields, held_under, number_under}
use Rattle.dk_pqmodel.specs.FooterBytes.{SpellsName, SpellsPath}

-- ColumnMetaData: what is read of it, the encodings of its pages, and their size in bytes, as they are and as they were before they were
-- compressed
pub record MetaSaid : Type 0 where
  pub read : MetaFields
  pub encodings : Option (List ℤ)
  pub uncompressed : Option ℤ
  pub compressed : Option ℤ

abbrev pub MetaPart : Type 0
MetaPart = Either (List ℤ) (Either Path ℤ)

abbrev pub meta_of : FieldValues MetaPart → MetaSaid
meta_of fields = record {
  read = meta_fields (others_in fields);
  encodings = held_under (pos 2) fields;
  uncompressed = number_under (pos 6) (others_in fields);
  compressed = number_under (pos 7) (others_in fields);
}

abbrev pub SpellsMetaSaid : List ℕ → MetaSaid → Type 0
SpellsMetaSaid = SpelledBy meta_of (SpellsStruct (SpellsHeldOr (pos 2) 9 (SpellsListOf 5 SpellsWhole) (SpellsHeldOr (pos 3) 9 SpellsPath SpellsNumberField)))

-- ColumnChunk
pub record ChunkSaid : Type 0 where
  pub metadata : Option MetaSaid

abbrev pub said_chunk : FieldValues (Either MetaSaid ℤ) → ChunkSaid
said_chunk fields = record { metadata = held_under (pos 3) fields }

abbrev pub SpellsChunkSaid : List ℕ → ChunkSaid → Type 0
SpellsChunkSaid = SpelledBy said_chunk (SpellsStruct (SpellsHeldOr (pos 3) 12 SpellsMetaSaid SpellsNumberField))

-- RowGroup: its chunks, the size of all their pages in bytes, and its rows
pub record GroupSaid : Type 0 where
  pub columns : Option (List ChunkSaid)
  pub bytes : Option ℤ
  pub rows : Option ℤ

abbrev pub said_group : FieldValues (Either (List ChunkSaid) ℤ) → GroupSaid
said_group fields = record { columns = held_under (pos 1) fields; bytes = number_under (pos 2) fields; rows = number_under (pos 3) fields }

abbrev pub SpellsGroupSaid : List ℕ → GroupSaid → Type 0
SpellsGroupSaid = SpelledBy said_group (SpellsStruct (SpellsHeldOr (pos 1) 9 (SpellsListOf 12 SpellsChunkSaid) SpellsNumberField))

-- SchemaElement: what is read of it, and its converted type
pub record ElementSaid : Type 0 where
  pub read : ElementFields
  pub converted : Option ℤ

abbrev pub said_element : FieldValues (Either (List ℕ) ℤ) → ElementSaid
said_element fields = record {
  read = record { physical = number_under (pos 1) fields; repetition = number_under (pos 3) fields; name = held_under (pos 4) fields; children = number_under (pos 5) fields };
  converted = number_under (pos 6) fields;
}

abbrev pub SpellsElementSaid : List ℕ → ElementSaid → Type 0
SpellsElementSaid = SpelledBy said_element (SpellsStruct (SpellsHeldOr (pos 4) 8 SpellsName SpellsNumberField))

-- FileMetaData
pub record FileSaid : Type 0 where
  pub schema : Option (List ElementSaid)
  pub rows : Option ℤ
  pub groups : Option (List GroupSaid)

abbrev pub FilePart : Type 0
FilePart = Either (List ElementSaid) (Either (List GroupSaid) ℤ)

abbrev pub said_file : FieldValues FilePart → FileSaid
said_file fields =
    record { schema = held_under (pos 2) fields; rows = number_under (pos 3) (others_in fields); groups = held_under (pos 4) (others_in fields) }

abbrev pub SpellsFileSaid : List ℕ → FileSaid → Type 0
SpellsFileSaid =
    SpelledBy said_file (SpellsStruct (SpellsHeldOr (pos 2) 9 (SpellsListOf 12 SpellsElementSaid) (SpellsHeldOr (pos 4) 9 (SpellsListOf 12 SpellsGroupSaid) SpellsNumberField)))
