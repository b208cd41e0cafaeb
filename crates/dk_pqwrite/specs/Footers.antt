-- The footer that is written, and the file that it ends.
use Rattle.std.specs.Prelude.{◌≡◌, ℕ, ◌+◌, pos, Some, None, List, [], ◌∷◌, map, sum_by, codes}
use Rattle.dk_grammar.specs.Lists.{SpellsListOf}
use Rattle.dk_thrift.specs.Writing.{WrittenSoFar}
use Rattle.dk_pqmodel.specs.Shape.{Fields}
use Rattle.dk_pqmodel.specs.FileMeans.{columns_of}
use Rattle.dk_pqmodel.specs.Footer.{Footer, Element, count_of, flat_of, each_of}
use Rattle.dk_pqmodel.specs.FooterBytes.{SpellsFooter, IsFramed}
use Rattle.dk_pqwrite.specs.Said.{ElementSaid, SpellsElementSaid, FileSaid, SpellsFileSaid}
use Rattle.dk_pqwrite.specs.declared.chunk.Chunk.{Chunk}
use Rattle.dk_pqwrite.specs.declared.group.RowGroup.{RowGroup}
use Rattle.dk_pqwrite.specs.Chunks.{chunk_with_path, chunks_size, group_said, path_of_chunk}
use Rattle.dk_pqwrite.specs.Elements.{fields_said, read_element, said_of}
use Rattle.dk_pqwrite.specs.FooterSizes.{element_size}
use Rattle.dk_pqwrite.specs.Items.{PutsHeld}
use Rattle.dk_pqwrite.specs.OverItself.{own_plans, column_path}
use Rattle.dk_pqwrite.specs.Written.{written_nodes}

-- the root is a group of all fields
abbrev pub root_of : Fields → Element
root_of fs = record { name = codes "root"; repetition = None; physical = None; children = count_of (written_nodes fs) }

abbrev pub root_said : Fields → ElementSaid
root_said fs = fields_said (codes "root") None None (Some (count_of (written_nodes fs))) None

-- how many bytes the elements of the schema have at most, the root among them
abbrev pub elements_size : Fields → ℕ
elements_size fs = sum_by element_size (root_said fs ∷ said_of (written_nodes fs))

-- and with them what is said of the chunks
abbrev pub footer_size : Fields → List Chunk → ℕ
footer_size fs chunks = elements_size fs + chunks_size chunks

-- The field of the schema's elements is added: the root and all that is below it.
pub record PutsSchema (fs : Fields) (old new : WrittenSoFar) : Type 0 where
  pub held : PutsHeld 2 9 (SpellsListOf 12 SpellsElementSaid) (root_said fs ∷ said_of (written_nodes fs)) (6 + elements_size fs) old new
  pub read : each_of read_element (root_said fs ∷ said_of (written_nodes fs)) ≡ Some (root_of fs ∷ flat_of (written_nodes fs))

-- what the fields of the whole say
abbrev pub file_said : Fields → RowGroup → FileSaid
file_said fs group = record { schema = Some (root_said fs ∷ said_of (written_nodes fs)); rows = Some (pos group.rows); groups = Some (group_said group ∷ []) }

-- The bytes are a FileMetaData that says these, and its elements are read.
pub record SpellsFileFields (fs : Fields) (group : RowGroup) (bytes : List ℕ) : Type 0 where
  pub spelled : SpellsFileSaid bytes (file_said fs group)
  pub read : each_of read_element (root_said fs ∷ said_of (written_nodes fs)) ≡ Some (root_of fs ∷ flat_of (written_nodes fs))

-- the chunks are those of the schema's columns, in order
abbrev pub AreColumnsOf : Fields → List Chunk → Type 0
AreColumnsOf fs chunks = map path_of_chunk chunks ≡ map column_path (columns_of (own_plans fs []) 0 0)

-- the footer of a file with one row group
abbrev pub footer_of : Fields → RowGroup → Footer
footer_of fs group =
    record { rows = group.rows; fields = written_nodes fs; groups = record { rows = group.rows; columns = map chunk_with_path group.chunks.items } ∷ [] }

-- The bytes end with a footer that is read so and says this, behind what stood there before.
abbrev pub EndsFile : Footer → FileSaid → List ℕ → List ℕ → Type 0
EndsFile footer said before bytes = (part : List ℕ) × IsFramed bytes before part × SpellsFooter part footer × SpellsFileSaid part said
