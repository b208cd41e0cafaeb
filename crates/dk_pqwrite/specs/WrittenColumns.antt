-- The pages of all columns, one column behind another.
use Rattle.std.specs.Prelude.{◌≡◌, ◌≤◌, ◌+◌, ◌*◌, ℕ, List, [], ◌∷◌, ◌++◌, length, map, sum_by, All, flat_map}
use Rattle.dk_pqmodel.specs.Datum.{Column}
use Rattle.dk_pqmodel.specs.FileMeans.{HasTriples}
use Rattle.dk_pqmodel.specs.FilePages.{ColumnAt}
use Rattle.dk_pqmodel.specs.Weight.{column_bytes}
use Rattle.dk_pqwrite.specs.declared.chunk.Chunk.{Chunk}
use Rattle.dk_pqwrite.specs.Chunks.{IsFit, chunk_with_path, path_of_chunk}
use Rattle.dk_pqwrite.specs.OverItself.{column_path}

-- each column's chunk has its triples
abbrev pub AreHeld : List ℕ → List ColumnAt → List Column → List Chunk → Type 0
AreHeld before [] [] [] = Unit {0}
AreHeld before (c ∷ cs) (t ∷ ts) (k ∷ ks) = HasTriples before c (chunk_with_path k).1 t × AreHeld before cs ts ks
AreHeld before cs ts ks = ⊥

-- each chunk says how many bytes its pages have
abbrev pub ChunksAreSized : List Chunk → List (List ℕ) → Type 0
ChunksAreSized [] [] = Unit {0}
ChunksAreSized (k ∷ ks) (p ∷ ps) = (k.size ≡ length p) × ChunksAreSized ks ps
ChunksAreSized ks ps = ⊥

-- Bytes are added that are the columns' pages, and these are their chunks, whatever is written behind.
pub record WritesColumns (columns : List ColumnAt) (triples : List Column) (chunks : List Chunk) (old new : List ℕ) : Type 0 where
  pub part : List ℕ
  pub added : new ≡ old ++ part
  pub held : (behind : List ℕ) → AreHeld (new ++ behind) columns triples chunks
  pub paths : map path_of_chunk chunks ≡ map column_path columns
  pub fit : All IsFit chunks
  pub parts : List (List ℕ)
  pub joined : part ≡ flat_map (λ p. p) parts
  pub sized : ChunksAreSized chunks parts
  pub size : length part ≤ 220 * length columns + sum_by column_bytes triples
