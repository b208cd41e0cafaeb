-- A written footer says the numbers of the pages' bytes.
use Rattle.std.proofs.Common.{◌≡◌, ℕ, ◌+◌, Some, None, Option, pos, is_some, option_map, List, [], ◌∷◌, ◌++◌, length, map, refl, ap, subst, ◌∙◌, arith}
use Rattle.std.specs.List.{flat_map}
use Rattle.std.proofs.lemmas.List.{length-append}
use Rattle.dk_pqmodel.specs.Datum.{Column}
use Rattle.dk_pqmodel.specs.FileMeans.{columns_of}
use Rattle.dk_pqmodel.specs.FilePages.{ColumnAt}
use Rattle.dk_pqmodel.specs.FooterBytes.{magic}
use Rattle.dk_pqmodel.specs.Shape.{Fields}
use Rattle.dk_pqwrite.specs.declared.chunk.Chunk.{Chunk}
use Rattle.dk_pqwrite.specs.declared.group.RowGroup.{RowGroup}
use Rattle.dk_pqwrite.specs.Chunks.{encodings_of, path_of_chunk, chunk_said, meta_said}
use Rattle.dk_pqwrite.specs.Footers.{EndsFile, file_said, footer_of}
use Rattle.dk_pqwrite.specs.OverItself.{own_plans, column_path}
use Rattle.dk_pqwrite.specs.Said.{ChunkSaid, SpellsFileSaid}
use Rattle.dk_pqwrite.specs.WrittenColumns.{ChunksAreSized, WritesColumns}
use Rattle.dk_pqwrite.specs.WrittenFile.{SayPages, with_metadata, whole_said, SaysItsBytes}

with_all : (ks : List Chunk) → map chunk_said ks ≡ map with_metadata (map meta_said ks)
with_all [] = refl
with_all (k ∷ ks) = ap (λ cs. chunk_said k ∷ cs) (with_all ks)

said_so : (place : Option ℕ) → is_some place ≡ is_some (option_map pos place)
said_so None = refl
said_so (Some n) = refl

first_is : {A : Type 0} (x y : A) (xs ys : List A) → x ∷ xs ≡ y ∷ ys → (x ≡ y) × (xs ≡ ys)
first_is x y xs ys h = (cc, cc)

says_all : (cs : List ColumnAt) (ks : List Chunk) (ps : List (List ℕ)) → map path_of_chunk ks ≡ map column_path cs → ChunksAreSized ks ps → SayPages cs ps (map meta_said ks)
says_all [] [] [] paths sized = tt
says_all (c ∷ cs) (k ∷ ks) (p ∷ ps) paths sized =
    let both = first_is (path_of_chunk k) (column_path c) (map path_of_chunk ks) (map column_path cs) paths in (
      record {
        path = ap Some both.0;
        uncompressed = ap (λ n. Some (pos n)) sized.0;
        compressed = ap (λ n. Some (pos n)) sized.0;
        encodings = ap (λ b. Some (map pos (encodings_of b))) (said_so k.dictionary_page);
      },
      says_all cs ks ps both.1 sized.1,
    )
says_all [] [] (p ∷ ps) paths sized = absurd sized
says_all [] (k ∷ ks) ps paths sized = (let never : path_of_chunk k ∷ map path_of_chunk ks ≡ [] = paths in cc)
says_all (c ∷ cs) [] ps paths sized = (let never : [] ≡ column_path c ∷ map column_path cs = paths in cc)
says_all (c ∷ cs) (k ∷ ks) [] paths sized = absurd sized

pub says_bytes : (fs : Fields) (cut : List Column) (group : RowGroup) (before bytes : List ℕ) → WritesColumns (columns_of (own_plans fs []) 0 0) cut group.chunks.items magic before
    → group.size + 4 ≡ length before → EndsFile (footer_of fs group) (file_said fs group) before bytes → SaysItsBytes fs group.rows bytes
says_bytes fs cut group before bytes written all ends =
    let ks = group.chunks.items in
    let four : length magic ≡ 4 = refl in
    let long : group.size ≡ length (flat_map (λ (p : List ℕ). p) written.parts) = omega (arith, all, four, ap length written.added, length-append magic written.part, ap length written.joined) in
    record {
      before = before;
      part = ends.0;
      framed = ends.1;
      pages = written.parts;
      whole = written.added ∙ ap (λ p. magic ++ p) written.joined;
      metas = map meta_said ks;
      each = says_all (columns_of (own_plans fs []) 0 0) ks written.parts written.paths written.sized;
      said = subst (λ n. SpellsFileSaid ends.0 (whole_said fs group.rows n (map meta_said ks))) long
          (subst (λ (cs : List ChunkSaid). SpellsFileSaid ends.0 (record {
            schema = (file_said fs group).schema;
            rows = Some (pos group.rows);
            groups = Some (record { columns = Some cs; bytes = Some (pos group.size); rows = Some (pos group.rows) } ∷ []);
          })) (with_all ks) ends.3);
    }
