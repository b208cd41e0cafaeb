-- Which bytes are a footer, and where it stands in a Parquet file (Apache Parquet, "File format").
use Rattle.std.specs.Prelude.{◌≡◌, ◌<◌, ◌^◌, ℕ, IsTrue, pos, List, ◌++◌, length, codes}
use Rattle.std.specs.Str.{is_utf8}
use Rattle.dk_grammar.specs.Grammar.{SpellsBinary}
use Rattle.dk_grammar.specs.Structs.{SpellsStruct, SpellsNumberField}
use Rattle.dk_grammar.specs.Lists.{SpellsListOf, SpellsHeldOr, SpelledBy}
use Rattle.dk_grammar.specs.Plain.{little}
use Rattle.dk_pqmodel.specs.Projection.{Path}
use Rattle.dk_pqmodel.specs.Footer.{Footer, MetaFields, meta_fields, ChunkFields, chunk_fields, GroupFields, group_fields, ElementFields, element_fields, FileFields, file_fields, MeansFooter}

-- a name is UTF-8
abbrev pub SpellsName : List ℕ → List ℕ → Type 0
SpellsName bytes name = SpellsBinary bytes name × IsTrue (is_utf8 name)

-- Of these structs one or two fields are read beside whole numbers: texts are of kind 8, lists of kind 9, structs of kind 12. Fields
-- of other ids, and of other kinds, are passed over.
abbrev pub SpellsPath : List ℕ → Path → Type 0
SpellsPath = SpellsListOf 8 SpellsName

abbrev pub SpellsMeta : List ℕ → MetaFields → Type 0
SpellsMeta = SpelledBy meta_fields (SpellsStruct (SpellsHeldOr (pos 3) 9 SpellsPath SpellsNumberField))

abbrev pub SpellsChunk : List ℕ → ChunkFields → Type 0
SpellsChunk = SpelledBy chunk_fields (SpellsStruct (SpellsHeldOr (pos 3) 12 SpellsMeta SpellsNumberField))

abbrev pub SpellsGroup : List ℕ → GroupFields → Type 0
SpellsGroup = SpelledBy group_fields (SpellsStruct (SpellsHeldOr (pos 1) 9 (SpellsListOf 12 SpellsChunk) SpellsNumberField))

abbrev pub SpellsElement : List ℕ → ElementFields → Type 0
SpellsElement = SpelledBy element_fields (SpellsStruct (SpellsHeldOr (pos 4) 8 SpellsName SpellsNumberField))

abbrev pub SpellsMetaData : List ℕ → FileFields → Type 0
SpellsMetaData =
    SpelledBy file_fields (SpellsStruct (SpellsHeldOr (pos 2) 9 (SpellsListOf 12 SpellsElement) (SpellsHeldOr (pos 4) 9 (SpellsListOf 12 SpellsGroup) SpellsNumberField)))

-- the bytes are a FileMetaData, all of them, and this is what it says
abbrev pub SpellsFooter : List ℕ → Footer → Type 0
SpellsFooter bytes footer = (fields : FileFields) × SpellsMetaData bytes fields × MeansFooter fields footer

abbrev pub magic : List ℕ
magic = codes "PAR1"

-- The magic, content, the footer, its length in four bytes, the least first, and the magic again. `before` is all before the footer.
pub record IsFramed (bytes before footer : List ℕ) : Type 0 where
  pub content : List ℕ
  pub front : before ≡ magic ++ content
  pub fits : length footer < 2 ^ 32
  pub whole : bytes ≡ before ++ (footer ++ (little 4 (length footer) ++ magic))

-- the file has this footer
abbrev pub HasFooter : List ℕ → Footer → Type 0
HasFooter bytes footer = (before : List ℕ) × (part : List ℕ) × IsFramed bytes before part × SpellsFooter part footer
