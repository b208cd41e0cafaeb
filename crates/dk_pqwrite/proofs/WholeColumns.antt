-- Columns that are written one behind another.
use Rattle.std.proofs.Common.{◌≡◌, ℕ, ◌+◌, ◌*◌, ◌<◌, ◌≤◌, List, [], ◌∷◌, ◌++◌, length, map, take, drop, get_or, sum_by, Vec, refl, sym, ap, ap₂, subst, ◌∙◌, arith, append_assoc}
use Rattle.std.specs.List.{flat_map}
use Rattle.std.specs.declared.alloc.Global.{Global}
use Rattle.std.proofs.lemmas.List.{append-nil, length-append, map-append, take_more, take_all}
use Rattle.std.proofs.lemmas.List.Elements.{All-nil, All-push}
use Rattle.std.proofs.lemmas.List.Sums.{sum_by-append, sum_by-cons}
use Rattle.dk_levels.specs.Borrowed.{borrowed_triple, borrowed_column, borrowed_columns}
use Rattle.dk_pqmodel.specs.Datum.{Column}
use Rattle.dk_pqmodel.specs.FileMeans.{HasTriples}
use Rattle.dk_pqmodel.specs.FilePages.{ColumnAt}
use Rattle.dk_pqmodel.specs.Weight.{column_bytes}
use Rattle.dk_levels.specs.declared.borrowed.BorrowedTriple.{BorrowedTriple}
use Rattle.dk_pqwrite.specs.declared.chunk.Chunk.{Chunk}
use Rattle.dk_pqwrite.specs.declared.leaves.SchemaLeaf.{SchemaLeaf}
use Rattle.dk_pqwrite.specs.Chunks.{IsFit, chunk_with_path, path_of_chunk}
use Rattle.dk_pqwrite.specs.OverItself.{column_path}
use Rattle.dk_pqwrite.specs.SchemaLeaves.{leaf_view}
use Rattle.dk_pqwrite.specs.Shredded.{AreWritable}
use Rattle.dk_pqwrite.specs.Writable.{IsWritableColumn}
use Rattle.dk_pqwrite.specs.WrittenChunk.{WritesColumn}
use Rattle.dk_pqwrite.specs.WrittenColumn.{leaf_column_at}
use Rattle.dk_pqwrite.specs.WrittenColumns.{AreHeld, ChunksAreSized, WritesColumns}
use Rattle.dk_pqwrite.proofs.Structs.{drop_next, drop_past}

-- ---- one column more

held_more : (before : List ℕ) (cs : List ColumnAt) (ts : List Column) (ks : List Chunk) (c : ColumnAt) (t : Column) (k : Chunk) → AreHeld before cs ts ks → HasTriples before c (chunk_with_path k).1 t
    → AreHeld before (cs ++ c ∷ []) (ts ++ t ∷ []) (ks ++ k ∷ [])
held_more before [] [] [] c t k h g = (g, tt)
held_more before (c' ∷ cs) (t' ∷ ts) (k' ∷ ks) c t k h g = (h.0, held_more before cs ts ks c t k h.1 g)
held_more before (c' ∷ cs) [] ks c t k h g = absurd h
held_more before (c' ∷ cs) (t' ∷ ts) [] c t k h g = absurd h
held_more before [] (t' ∷ ts) ks c t k h g = absurd h
held_more before [] [] (k' ∷ ks) c t k h g = absurd h

more_size : (part more : List ℕ) (cs : List ColumnAt) (ts : List Column) (c : ColumnAt) (t : Column) → length part ≤ 220 * length cs + sum_by column_bytes ts → length more ≤ 220 + column_bytes t
    → length (part ++ more) ≤ 220 * length (cs ++ c ∷ []) + sum_by column_bytes (ts ++ t ∷ [])
more_size part more cs ts c t h g =
    omega (arith, h, g, length-append part more, length-append cs (c ∷ []), sum_by-append column_bytes ts (t ∷ []), sum_by-cons column_bytes t [])

flat_last : (ps : List (List ℕ)) (p : List ℕ) → flat_map (λ x. x) (ps ++ p ∷ []) ≡ flat_map (λ x. x) ps ++ p
flat_last [] p = append-nil p
flat_last (q ∷ ps) p = ap (λ bytes. q ++ bytes) (flat_last ps p) ∙ sym (append_assoc q (flat_map (λ x. x) ps) p)

sized_more : (ks : List Chunk) (ps : List (List ℕ)) (k : Chunk) (p : List ℕ) → ChunksAreSized ks ps → k.size ≡ length p → ChunksAreSized (ks ++ k ∷ []) (ps ++ p ∷ [])
sized_more [] [] k p h g = (g, tt)
sized_more [] (q ∷ ps) k p h g = absurd h
sized_more (j ∷ ks) [] k p h g = absurd h
sized_more (j ∷ ks) (q ∷ ps) k p h g = (h.0, sized_more ks ps k p h.1 g)

pub one_more : (cs : List ColumnAt) (ts : List Column) (ks : List Chunk) (c : ColumnAt) (t : Column) (k : Chunk) (old middle new : List ℕ) → WritesColumns cs ts ks old middle → WritesColumn c t k middle new
    → WritesColumns (cs ++ c ∷ []) (ts ++ t ∷ []) (ks ++ k ∷ []) old new
one_more cs ts ks c t k old middle new h g = record {
  part = h.part ++ g.part;
  added = g.added ∙ ap (λ bytes. bytes ++ g.part) h.added ∙ append_assoc old h.part g.part;
  held = λ behind.
      let same : middle ++ (g.part ++ behind) ≡ new ++ behind = sym (ap (λ bytes. bytes ++ behind) g.added ∙ append_assoc middle g.part behind) in
      held_more (new ++ behind) cs ts ks c t k (subst (λ before. AreHeld before cs ts ks) same (h.held (g.part ++ behind))) (g.held behind);
  paths = map-append path_of_chunk ks (k ∷ []) ∙ ap₂ (λ xs x. xs ++ x ∷ []) h.paths g.path ∙ sym (map-append column_path cs (c ∷ []));
  fit = All-push IsFit ks k h.fit g.fit;
  parts = h.parts ++ g.part ∷ [];
  joined = ap (λ bytes. bytes ++ g.part) h.joined ∙ sym (flat_last h.parts g.part);
  sized = sized_more ks h.parts k g.part h.sized g.bytes;
  size = more_size h.part g.part cs ts c t h.size g.size;
}

-- ---- the loop

-- so many columns are written, and the others can be
pub record GoesOn (columns : List (Vec BorrowedTriple Global)) (place : ℕ) (all rest : List ColumnAt) (chunks : List Chunk) (old now : List ℕ) : Type 0 where
  pub done : List ColumnAt
  pub whole : all ≡ done ++ rest
  pub written : WritesColumns done (borrowed_columns (take place columns)) chunks old now
  pub left : AreWritable rest (borrowed_columns (drop place columns))

none_written : (bytes : List ℕ) → WritesColumns [] [] [] bytes bytes
none_written bytes = record {
  part = [];
  added = sym (append-nil bytes);
  held = λ behind. tt;
  paths = refl;
  fit = All-nil IsFit;
  parts = [];
  joined = refl;
  sized = tt;
  size = omega arith;
}

pub begun : (columns : List (Vec BorrowedTriple Global)) (all : List ColumnAt) (bytes : List ℕ) → AreWritable all (borrowed_columns columns) → GoesOn columns 0 all all [] bytes bytes
begun columns all bytes h = record { done = []; whole = refl; written = none_written bytes; left = h }

module _ (columns : List (Vec BorrowedTriple Global)) (place : ℕ) (column : Vec BorrowedTriple Global) (room : place < length columns) (is : column ≡ get_or columns place column) where
  -- the columns that are left
  left_are : (rest : List ColumnAt) → AreWritable rest (borrowed_columns (drop place columns)) → AreWritable rest (borrowed_column column ∷ borrowed_columns (drop (place + 1) columns))
  left_are rest h = subst (λ ts. AreWritable rest (borrowed_columns ts)) (drop_next columns place column room is) h

  pub some_left : (all rest : List ColumnAt) (chunks : List Chunk) (old now : List ℕ) → GoesOn columns place all rest chunks old now → rest ≡ [] → ⊥
  some_left all rest chunks old now h e = subst (λ cs. AreWritable cs (borrowed_column column ∷ borrowed_columns (drop (place + 1) columns))) e (left_are rest h.left)

  next_left : (c : ColumnAt) (all rest more : List ColumnAt) (chunks : List Chunk) (old now : List ℕ) → GoesOn columns place all rest chunks old now → rest ≡ c ∷ more
      → AreWritable (c ∷ more) (borrowed_column column ∷ borrowed_columns (drop (place + 1) columns))
  next_left c all rest more chunks old now h e = subst (λ cs. AreWritable cs (borrowed_column column ∷ borrowed_columns (drop (place + 1) columns))) e (left_are rest h.left)

  pub writable : (c : ColumnAt) (all rest more : List ColumnAt) (chunks : List Chunk) (old now : List ℕ) → GoesOn columns place all rest chunks old now → rest ≡ c ∷ more → IsWritableColumn c (borrowed_column column)
  writable c all rest more chunks old now h e = (next_left c all rest more chunks old now h e).0

  taken : borrowed_columns (take (place + 1) columns) ≡ borrowed_columns (take place columns) ++ borrowed_column column ∷ []
  taken =
      ap borrowed_columns (take_more columns place column room ∙ ap (λ x. take place columns ++ x ∷ []) (sym is)) ∙ map-append borrowed_column (take place columns) (column ∷ [])

  pub next_column : (c : ColumnAt) (k : Chunk) (all rest more : List ColumnAt) (chunks others : List Chunk) (old now new : List ℕ) → GoesOn columns place all rest chunks old now → rest ≡ c ∷ more
      → WritesColumn c (borrowed_column column) k now new → others ≡ chunks ++ k ∷ [] → GoesOn columns (place + 1) all more others old new
  next_column c k all rest more chunks others old now new h e one pushed = record {
    done = h.done ++ c ∷ [];
    whole = h.whole ∙ ap (λ cs. h.done ++ cs) e ∙ sym (append_assoc h.done (c ∷ []) more);
    written = subst (λ ks. WritesColumns (h.done ++ c ∷ []) (borrowed_columns (take (place + 1) columns)) ks old new) (sym pushed)
        (subst (λ ts. WritesColumns (h.done ++ c ∷ []) ts (chunks ++ k ∷ []) old new) (sym taken) (one_more h.done (borrowed_columns (take place columns)) chunks c (borrowed_column column) k old now new h.written one));
    left = (next_left c all rest more chunks old now h e).1;
  }

none_left : (rest : List ColumnAt) → AreWritable rest [] → rest ≡ []
none_left [] h = refl
none_left (c ∷ cs) h = absurd h

pub all_written : (columns : List (Vec BorrowedTriple Global)) (place : ℕ) (all rest : List ColumnAt) (chunks : List Chunk) (old now : List ℕ) → length columns ≤ place → GoesOn columns place all rest chunks old now
    → WritesColumns all (borrowed_columns columns) chunks old now
all_written columns place all rest chunks old now past h =
    let none : rest ≡ [] = none_left rest (subst (λ ts. AreWritable rest (borrowed_columns ts)) (drop_past columns place past) h.left) in
    let whole : h.done ≡ all = sym (h.whole ∙ ap (λ cs. h.done ++ cs) none ∙ append-nil h.done) in
    subst (λ cs. WritesColumns cs (borrowed_columns columns) chunks old now) whole (subst (λ ts. WritesColumns h.done (borrowed_columns ts) chunks old now) (take_all place columns past) h.written)

-- bytes that were begun go on
pub still_begun : (columns : List (Vec BorrowedTriple Global)) (place : ℕ) (all rest : List ColumnAt) (chunks : List Chunk) (old now : List ℕ) → 0 < length old → GoesOn columns place all rest chunks old now → 0 < length now
still_begun columns place all rest chunks old now h g = omega (arith, h, ap length g.written.added, length-append old g.written.part)

-- ---- a leaf taken apart

pub at_any_path : (leaf : SchemaLeaf) (items triples : List BorrowedTriple) → triples ≡ items → IsWritableColumn (leaf_view leaf) (map borrowed_triple items) → IsWritableColumn (leaf_column_at [] leaf.column) (map borrowed_triple triples)
at_any_path leaf items triples read h =
    subst (λ ts. IsWritableColumn (leaf_column_at [] leaf.column) (map borrowed_triple ts)) (sym read) (record { full = h.full; fit = h.fit; few = h.few; light = h.light })

pub of_leaf : (leaf : SchemaLeaf) (items triples : List BorrowedTriple) (chunk : Chunk) (old new : List ℕ) → triples ≡ items → WritesColumn (leaf_view leaf) (map borrowed_triple triples) chunk old new
    → WritesColumn (leaf_view leaf) (map borrowed_triple items) chunk old new
of_leaf leaf items triples chunk old new read h = subst (λ ts. WritesColumn (leaf_view leaf) (map borrowed_triple ts) chunk old new) read h

pub none_to_come : {X : Type 0} (items : List X) (len : ℕ) → length items ≡ len → len ≡ 0 → items ≡ []
none_to_come [] len same none = refl
none_to_come (x ∷ xs) len same none = absurd (omega (arith, same, none))

pub one_less : {X : Type 0} (x : X) (items others : List X) (len left : ℕ) → length items ≡ len → items ≡ x ∷ others → left + 1 ≡ len → length others ≡ left
one_less x items others len left same e less = omega (arith, same, less, ap length e)

-- what is written of the leaves is written of the schema's columns
pub of_schema : (all : List ColumnAt) (cut : List Column) (leaves : List ColumnAt) (columns : List Column) (chunks : List Chunk) (old begun new : List ℕ) → leaves ≡ all → columns ≡ cut → begun ≡ old
    → WritesColumns leaves columns chunks begun new → WritesColumns all cut chunks old new
of_schema all cut leaves columns chunks old begun new named read same h =
    subst (λ cs. WritesColumns cs cut chunks old new) named (subst (λ ts. WritesColumns leaves ts chunks old new) read (subst (λ bytes. WritesColumns leaves columns chunks bytes new) same h))
