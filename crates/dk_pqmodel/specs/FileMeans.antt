-- What a Parquet file means: the rows that it holds of wanted fields, from the rows to the bytes.
use Rattle.std.specs.Prelude.{◌≡◌, ◌+◌, ◌⊎◌, ℕ, Bool, if◌then◌else◌, pos, Option, Some, None, unwrap_or, List, [], ◌∷◌, ◌++◌, length, flat_map, Contains}
use Rattle.dk_pqmodel.specs.Shape.{Fields, chars}
use Rattle.dk_pqmodel.specs.Datum.{Value, Cells, no_cells, one_cell, Column, appended}
use Rattle.dk_pqmodel.specs.Fits.{AreTriplesOf}
use Rattle.dk_pqmodel.specs.Projection.{Plan, missing, value, members, elements, entries, Plans, no_plans, one_plan, projection, projected_fields, rows_widened, first_misfit}
use Rattle.dk_pqmodel.specs.Footer.{Chunk, RowGroup, Footer}
use Rattle.dk_pqmodel.specs.FooterBytes.{IsFramed, SpellsFooter}
use Rattle.dk_pqmodel.specs.FilePages.{ColumnAt, physical_type, AreData, IsFirst}

abbrev pub one_if : Bool → ℕ
one_if b = if b then 1 else 0

-- the columns that are read, with their greatest levels, from those that are reached
abbrev mutual
  pub columns_in : Plan → ℕ → ℕ → List ColumnAt
  columns_in missing r d = []
  columns_in (value b kind path) r d = record { path = path; kind = kind; rep = r; def = d + one_if b } ∷ []
  columns_in (members b ps) r d = columns_of ps r (d + one_if b)
  columns_in (elements b p) r d = columns_in p (r + 1) (d + one_if b + 1)
  columns_in (entries b k path p) r d =
      record { path = path; kind = chars; rep = r + 1; def = d + one_if b + 1 + one_if k } ∷ columns_in p (r + 1) (d + one_if b + 1)

  pub columns_of : Plans → ℕ → ℕ → List ColumnAt
  columns_of no_plans r d = []
  columns_of (one_plan p ps) r d = columns_in p r d ++ columns_of ps r d

-- Pages of the chunk: they stand one behind another, from the dictionary page on if there is one, and end before the footer. These are
-- their triples.
pub record HasPages (before : List ℕ) (column : ColumnAt) (chunk : Chunk) (triples : Column) : Type 0 where
  pub front : List ℕ
  pub first : List ℕ
  pub pages : List (List ℕ × Column)
  pub behind : List ℕ
  pub whole : before ≡ front ++ (first ++ (flat_map (λ x. x.0) pages ++ behind))
  pub begins : length front ≡ unwrap_or chunk.dictionary_page chunk.first_page
  pub dictionary : Option (List Value)
  pub entries : IsFirst column.kind dictionary first
  pub read : AreData column dictionary pages
  pub joined : triples ≡ flat_map (λ x. x.1) pages

-- The chunk isn't compressed, is of the column's type, and has as many triples as it says, which are those of its pages. One of no
-- triples has no page, and where it says that its pages begin isn't looked at.
pub record HasTriples (before : List ℕ) (column : ColumnAt) (chunk : Chunk) (triples : Column) : Type 0 where
  pub plain : chunk.codec ≡ pos 0
  pub typed : chunk.physical ≡ physical_type column.kind
  pub count : length triples ≡ chunk.values
  pub pages : (chunk.values ≡ 0) ⊎ HasPages before column chunk triples

-- the group's chunk of the column's path has the triples
abbrev pub HasColumn : List ℕ → RowGroup → ColumnAt → Column → Type 0
HasColumn before group column triples = (chunk : Chunk) × Contains group.columns (column.path, chunk) × HasTriples before column chunk triples

abbrev pub HasColumns : List ℕ → RowGroup → List ColumnAt → List Column → Type 0
HasColumns before group [] [] = Unit {0}
HasColumns before group (c ∷ cs) (t ∷ ts) = HasColumn before group c t × HasColumns before group cs ts
HasColumns before group cs ts = ⊥

abbrev pub rows_in : Cells → ℕ
rows_in no_cells = 0
rows_in (one_cell row rows) = 1 + rows_in rows

-- a group's rows, as the file has them: as many as it says, and its columns are their triples
pub record HasRows (before : List ℕ) (plans : Plans) (group : RowGroup) (rows : Cells) : Type 0 where
  pub columns : List Column
  pub held : HasColumns before group (columns_of plans 0 0) columns
  pub triples : AreTriplesOf (projected_fields plans) rows columns
  pub count : rows_in rows ≡ group.rows

abbrev pub HaveRows : List ℕ → Plans → List RowGroup → List Cells → Type 0
HaveRows before plans [] [] = Unit {0}
HaveRows before plans (group ∷ groups) (share ∷ shares) = HasRows before plans group share × HaveRows before plans groups shares
HaveRows before plans groups shares = ⊥

abbrev pub all_rows : List Cells → Cells
all_rows [] = no_cells
all_rows (share ∷ shares) = appended share (all_rows shares)

-- The bytes are a file whose schema has the wanted fields where it has fields of their names, and the rows are those of its groups,
-- read by the file's own schema cut to the wanted fields. A wanted field that the file lacks is null.
pub record FileMeans (wanted : Fields) (bytes : List ℕ) (rows : Cells) : Type 0 where
  pub before : List ℕ
  pub part : List ℕ
  pub framed : IsFramed bytes before part
  pub footer : Footer
  pub spelled : SpellsFooter part footer
  pub fitting : first_misfit wanted footer.fields ≡ None
  pub shares : List Cells
  pub held : HaveRows before (projection wanted footer.fields) footer.groups shares
  pub count : rows_in (all_rows shares) ≡ footer.rows
  pub widened : rows_widened (projection wanted footer.fields) (all_rows shares) ≡ Some rows

-- the law that a file means at most one list of rows
abbrev pub MeansOneList : Type 0
MeansOneList = (wanted : Fields) (bytes : List ℕ) (rows others : Cells) → FileMeans wanted bytes rows → FileMeans wanted bytes others → rows ≡ others
