-- A file of the columns and their footer means the rows, and has no more bytes than are promised.
use Rattle.std.proofs.Common.{◌≡◌, ℕ, ◌+◌, ◌≤◌, List, [], ◌∷◌, length, map, drop, get_or, All, refl, sym, ap, subst, ◌∙◌, arith}
use Rattle.std.specs.List.{Contains}
use Rattle.std.proofs.lemmas.List.{append-nil, length-append}
use Rattle.std.proofs.lemmas.List.Elements.{All-contains_itself, All-head, All-tail}
use Rattle.dk_pqmodel.specs.Shape.{Fields}
use Rattle.dk_pqmodel.specs.Schema.{IsSchema}
use Rattle.dk_pqmodel.specs.Datum.{Cells, no_cells, one_cell, Column, appended}
use Rattle.dk_pqmodel.specs.Fits.{AreRowsOf}
use Rattle.dk_pqmodel.specs.Footer as plain
use Rattle.dk_pqmodel.specs.FooterBytes.{magic}
use Rattle.dk_pqmodel.specs.FileMeans.{HasColumns, HasRows, columns_of, rows_in}
use Rattle.dk_pqmodel.specs.FilePages.{ColumnAt}
use Rattle.dk_pqmodel.specs.Projection.{Path, projection, rows_widened}
use Rattle.dk_pqmodel.specs.Triples.{triples}
use Rattle.dk_pqmodel.specs.Weight.{most_bytes}
use Rattle.dk_pqwrite.specs.Said.{FileSaid}
use Rattle.dk_pqwrite.specs.declared.chunk.Chunk.{Chunk}
use Rattle.dk_pqwrite.specs.declared.group.RowGroup.{RowGroup}
use Rattle.dk_pqwrite.specs.Chunks.{chunk_with_path, path_of_chunk}
use Rattle.dk_pqwrite.specs.Footers.{EndsFile, footer_of, footer_size}
use Rattle.dk_pqwrite.specs.OverItself.{own_plans, column_path}
use Rattle.dk_pqwrite.specs.Written.{written_nodes}
use Rattle.dk_pqwrite.specs.WrittenColumns.{AreHeld, WritesColumns}
use Rattle.dk_pqwrite.specs.WrittenFile.{MeansAsWritten}
use Rattle.dk_pqwrite.proofs.BareRows.{own_triples, own_widened}
use Rattle.dk_pqwrite.proofs.OwnProjection.{fits_own, own_projection}
use Rattle.dk_pqwrite.proofs.SchemaSizes.{schema_size}
use Rattle.dk_pqwrite.proofs.WholeFooters.{footer_size_is}

-- ---- the columns of the group

first_same : {A : Type 0} (x y : A) (xs ys : List A) → x ∷ xs ≡ y ∷ ys → x ≡ y
first_same x y xs ys e = ap (λ zs. get_or zs 0 x) e

others_same : {A : Type 0} (x y : A) (xs ys : List A) → x ∷ xs ≡ y ∷ ys → xs ≡ ys
others_same x y xs ys e = ap (drop 1) e

-- all of these stand among those
abbrev Among : List (Path × plain.Chunk) → List (Path × plain.Chunk) → Type 0
Among all xs = All (Contains all) xs

held_columns : (before : List ℕ) (rows : ℕ) (all : List (Path × plain.Chunk)) (cs : List ColumnAt) (ts : List Column) (ks : List Chunk) → AreHeld before cs ts ks → map path_of_chunk ks ≡ map column_path cs
    → Among all (map chunk_with_path ks) → HasColumns before (record { rows = rows; columns = all }) cs ts
held_columns before rows all [] [] [] h paths among = tt
held_columns before rows all (c ∷ cs) (t ∷ ts) (k ∷ ks) h paths among = (
  (
    (chunk_with_path k).1,
    subst (λ path. Contains all (path, (chunk_with_path k).1)) (first_same (path_of_chunk k) (column_path c) (map path_of_chunk ks) (map column_path cs) paths) (All-head (Contains all) (chunk_with_path k) (map chunk_with_path ks) among),
    h.0,
  ),
  held_columns before rows all cs ts ks h.1 (others_same (path_of_chunk k) (column_path c) (map path_of_chunk ks) (map column_path cs) paths) (All-tail (Contains all) (chunk_with_path k) (map chunk_with_path ks) among),
)
held_columns before rows all (c ∷ cs) [] ks h paths among = absurd h
held_columns before rows all (c ∷ cs) (t ∷ ts) [] h paths among = absurd h
held_columns before rows all [] (t ∷ ts) ks h paths among = absurd h
held_columns before rows all [] [] (k ∷ ks) h paths among = absurd h

-- ---- the rows

nothing_behind : (rows : Cells) → appended rows no_cells ≡ rows
nothing_behind no_cells = refl
nothing_behind (one_cell row rows) = ap (one_cell row) (nothing_behind rows)

module _ (fs : Fields) (rows : Cells) (group : RowGroup) (before bytes : List ℕ) (is : IsSchema fs) (form : AreRowsOf fs rows) (counted : rows_in rows ≡ group.rows) (said : FileSaid) where
  abbrev chunks : List Chunk
  chunks = group.chunks.items

  abbrev own_group : plain.RowGroup
  own_group = record { rows = group.rows; columns = map chunk_with_path chunks }

  share : AreHeld before (columns_of (own_plans fs []) 0 0) (triples fs rows) chunks → map path_of_chunk chunks ≡ map column_path (columns_of (own_plans fs []) 0 0)
      → HasRows before (projection fs (written_nodes fs)) own_group rows
  share held paths = record {
    columns = triples fs rows;
    held = subst (λ plans. HasColumns before own_group (columns_of plans 0 0) (triples fs rows)) (sym (own_projection fs is))
        (held_columns before group.rows (map chunk_with_path chunks) (columns_of (own_plans fs []) 0 0) (triples fs rows) chunks held paths (All-contains_itself (map chunk_with_path chunks)));
    triples = own_triples fs rows is form;
    count = counted;
  }

  means_rows : AreHeld before (columns_of (own_plans fs []) 0 0) (triples fs rows) chunks → map path_of_chunk chunks ≡ map column_path (columns_of (own_plans fs []) 0 0) → EndsFile (footer_of fs group) said before bytes
      → MeansAsWritten fs bytes rows
  means_rows held paths ends = record {
    means = record {
      before = before;
      part = ends.0;
      framed = ends.1;
      footer = footer_of fs group;
      spelled = ends.2;
      fitting = fits_own fs is;
      shares = rows ∷ [];
      held = (share held paths, tt);
      count = ap rows_in (nothing_behind rows) ∙ counted;
      widened = ap (rows_widened (projection fs (written_nodes fs))) (nothing_behind rows) ∙ own_widened fs rows is form;
    };
    own = refl;
  }

-- the pages of all columns, and a footer of their chunks and the schema
pub file_means : (fs : Fields) (rows : Cells) (group : RowGroup) (said : FileSaid) (before bytes : List ℕ) → IsSchema fs → AreRowsOf fs rows → rows_in rows ≡ group.rows
    → WritesColumns (columns_of (own_plans fs []) 0 0) (triples fs rows) group.chunks.items magic before → EndsFile (footer_of fs group) said before bytes → MeansAsWritten fs bytes rows
file_means fs rows group said before bytes is form counted written ends =
    means_rows fs rows group before bytes is form counted said
    (subst (λ all. AreHeld all (columns_of (own_plans fs []) 0 0) (triples fs rows) group.chunks.items) (append-nil before) (written.held [])) written.paths ends

-- ---- its size

pub few_bytes : (fs : Fields) (rows : Cells) (ks : List Chunk) (before bytes : List ℕ) → IsSchema fs → WritesColumns (columns_of (own_plans fs []) 0 0) (triples fs rows) ks magic before
    → length bytes ≤ length before + 78 + footer_size fs ks → length bytes ≤ most_bytes fs rows
few_bytes fs rows ks before bytes is written h =
    let four : length magic ≡ 4 = refl in
    omega (arith, h, four, written.size, ap length written.added, length-append magic written.part, schema_size fs is, footer_size_is fs ks written.paths)
