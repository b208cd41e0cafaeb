-- A column that is written as the pages of a chunk.
use Rattle.std.specs.Prelude.{◌≡◌, ◌≤◌, ◌+◌, ℕ, Bool, false, Option, List, ◌++◌, length}
use Rattle.dk_pqmodel.specs.Datum.{Value, Column}
use Rattle.dk_pqmodel.specs.FileMeans.{HasTriples}
use Rattle.dk_pqmodel.specs.FilePages.{ColumnAt, IsDataV1}
use Rattle.dk_pqmodel.specs.Weight.{column_bytes}
use Rattle.dk_pqwrite.specs.declared.chunk.Chunk.{Chunk}
use Rattle.dk_pqwrite.specs.declared.column.LeafKind.{LeafKind}
use Rattle.dk_pqwrite.specs.declared.column.LeafKind.TheVariants.{Flag, Int32, Int64, Chars}
use Rattle.dk_pqwrite.specs.Chunks.{IsFit, chunk_with_path, path_of_chunk}

-- texts have a dictionary where one is asked for
abbrev pub has_dictionary : LeafKind → Bool → Bool
has_dictionary Flag asked = false
has_dictionary Int32 asked = false
has_dictionary Int64 asked = false
has_dictionary Chars asked = asked

-- a data page with the triples stands at the place, and ends the bytes
pub record EndsWithPage (column : ColumnAt) (triples : Column) (place : ℕ) (bytes : List ℕ) : Type 0 where
  pub front : List ℕ
  pub page : List ℕ
  pub whole : bytes ≡ front ++ page
  pub begins : length front ≡ place
  pub dictionary : Option (List Value)
  pub is : IsDataV1 column dictionary page triples

-- The column's pages are added, and the chunk says where they stand. They are read so, whatever is written behind them.
pub record WritesColumn (column : ColumnAt) (triples : Column) (chunk : Chunk) (old new : List ℕ) : Type 0 where
  pub part : List ℕ
  pub added : new ≡ old ++ part
  pub held : (behind : List ℕ) → HasTriples (new ++ behind) column (chunk_with_path chunk).1 triples
  pub ends : EndsWithPage column triples chunk.first_page new
  pub bytes : chunk.size ≡ length part
  pub path : path_of_chunk chunk ≡ column.path
  pub fit : IsFit chunk
  pub size : length part ≤ 220 + column_bytes triples
