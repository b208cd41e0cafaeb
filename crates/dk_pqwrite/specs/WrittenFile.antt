-- What a written file means, and what it says of its own bytes.
use Rattle.std.specs.Prelude.{◌≡◌, ℕ, pos, Some, is_some, List, [], ◌∷◌, ◌++◌, length, map}
use Rattle.std.specs.List.{flat_map}
use Rattle.dk_pqmodel.specs.Shape.{Fields}
use Rattle.dk_pqmodel.specs.Datum.{Cells}
use Rattle.dk_pqmodel.specs.FileMeans.{FileMeans, columns_of}
use Rattle.dk_pqmodel.specs.FilePages.{ColumnAt}
use Rattle.dk_pqmodel.specs.FooterBytes.{IsFramed, magic}
use Rattle.dk_pqwrite.specs.Chunks.{encodings_of}
use Rattle.dk_pqwrite.specs.Elements.{said_of}
use Rattle.dk_pqwrite.specs.Footers.{root_said}
use Rattle.dk_pqwrite.specs.OverItself.{own_plans}
use Rattle.dk_pqwrite.specs.Said.{MetaSaid, ChunkSaid, FileSaid, SpellsFileSaid}
use Rattle.dk_pqwrite.specs.Written.{written_nodes}

-- The file means the rows, and its own schema is the one that is written for these fields: it has no field more.
pub record MeansAsWritten (fs : Fields) (bytes : List ℕ) (rows : Cells) : Type 0 where
  pub means : FileMeans fs bytes rows
  pub own : means.footer.fields ≡ written_nodes fs

-- what is said of a column whose pages are these bytes: its path, how many they are, compressed or not, and the encodings in them, which
-- are PLAIN and RLE, and RLE_DICTIONARY where there is a dictionary page
pub record SaysPages (column : ColumnAt) (pages : List ℕ) (meta : MetaSaid) : Type 0 where
  pub path : meta.read.path ≡ Some column.path
  pub uncompressed : meta.uncompressed ≡ Some (pos (length pages))
  pub compressed : meta.compressed ≡ Some (pos (length pages))
  pub encodings : meta.encodings ≡ Some (map pos (encodings_of (is_some meta.read.dictionary_page)))

abbrev pub SayPages : List ColumnAt → List (List ℕ) → List MetaSaid → Type 0
SayPages [] [] [] = Unit {0}
SayPages (c ∷ cs) (p ∷ ps) (m ∷ ms) = SaysPages c p m × SayPages cs ps ms
SayPages cs ps ms = ⊥

abbrev pub with_metadata : MetaSaid → ChunkSaid
with_metadata meta = record { metadata = Some meta }

-- One row group, whose size is that of all pages. Each element of the schema says what other readers take it for.
abbrev pub whole_said : Fields → ℕ → ℕ → List MetaSaid → FileSaid
whole_said fs rows size metas = record {
  schema = Some (root_said fs ∷ said_of (written_nodes fs));
  rows = Some (pos rows);
  groups = Some (record { columns = Some (map with_metadata metas); bytes = Some (pos size); rows = Some (pos rows) } ∷ []);
}

-- The pages of the columns stand one behind another, and the footer says how many bytes they have, column by column and in all.
pub record SaysItsBytes (fs : Fields) (rows : ℕ) (bytes : List ℕ) : Type 0 where
  pub before : List ℕ
  pub part : List ℕ
  pub framed : IsFramed bytes before part
  pub pages : List (List ℕ)
  pub whole : before ≡ magic ++ flat_map (λ p. p) pages
  pub metas : List MetaSaid
  pub each : SayPages (columns_of (own_plans fs []) 0 0) pages metas
  pub said : SpellsFileSaid part (whole_said fs rows (length (flat_map (λ (p : List ℕ). p) pages)) metas)
