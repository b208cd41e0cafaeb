-- What is said of the chunks and of their row group.
use Rattle.std.specs.Prelude.{◌<◌, ◌^◌, ℕ, pos, IfSome, Some, option_map, All, List, map, sum_by, string_bytes, Bool, true, false, is_some, ◌∷◌, []}
use Rattle.dk_pqmodel.specs.Projection.{Path}
use Rattle.dk_pqmodel.specs.Footer as plain
use Rattle.dk_pqwrite.specs.Said.{MetaSaid, ChunkSaid, GroupSaid}
use Rattle.dk_pqwrite.specs.declared.chunk.Chunk.{Chunk}
use Rattle.dk_pqwrite.specs.declared.group.RowGroup.{RowGroup}
use Rattle.dk_pqwrite.specs.FooterSizes.{chunk_size}

abbrev pub path_of_chunk : Chunk → Path
path_of_chunk c = map string_bytes c.path.items

-- a chunk with its path, as a footer has it
abbrev pub chunk_with_path : Chunk → Path × plain.Chunk
chunk_with_path c =
    (path_of_chunk c, record { physical = pos c.physical; codec = pos 0; values = c.values; first_page = c.first_page; dictionary_page = c.dictionary_page })

-- its numbers are those of the format, and no dictionary page stands at 0
pub record IsFit (c : Chunk) : Type 0 where
  pub physical : c.physical < 2 ^ 31
  pub values : c.values < 2 ^ 63
  pub size : c.size < 2 ^ 63
  pub first : c.first_page < 2 ^ 63
  pub dictionary : IfSome c.dictionary_page (λ n. (0 < n) × (n < 2 ^ 63))

-- The numbers of a row group are those of the format, those of its chunks among them.
pub record FitsFormat (group : RowGroup) : Type 0 where
  pub rows : group.rows < 2 ^ 63
  pub size : group.size < 2 ^ 63
  pub chunks : All IsFit group.chunks.items

-- PLAIN and RLE, and RLE_DICTIONARY where there is a dictionary
abbrev pub encodings_of : Bool → List ℕ
encodings_of false = 0 ∷ 3 ∷ []
encodings_of true = 0 ∷ 3 ∷ 8 ∷ []

-- nothing is compressed, so both sizes are that of its pages
abbrev pub meta_said : Chunk → MetaSaid
meta_said c = record {
  read = record {
    physical = Some (pos c.physical);
    path = Some (path_of_chunk c);
    codec = Some (pos 0);
    values = Some (pos c.values);
    first_page = Some (pos c.first_page);
    dictionary_page = option_map pos c.dictionary_page;
  };
  encodings = Some (map pos (encodings_of (is_some c.dictionary_page)));
  uncompressed = Some (pos c.size);
  compressed = Some (pos c.size);
}

abbrev pub chunk_said : Chunk → ChunkSaid
chunk_said c = record { metadata = Some (meta_said c) }

abbrev pub group_said : RowGroup → GroupSaid
group_said group = record { columns = Some (map chunk_said group.chunks.items); bytes = Some (pos group.size); rows = Some (pos group.rows) }

-- how many bytes all that is said of the chunks has at most
abbrev pub chunks_size : List Chunk → ℕ
chunks_size chunks = sum_by chunk_size (map path_of_chunk chunks)
