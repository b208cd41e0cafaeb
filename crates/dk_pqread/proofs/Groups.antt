-- The chunks of a row group are found by the paths of their columns.
use Rattle.std.proofs.Common.{◌≡◌, ℕ, zero, suc, ◌<◌, get_or, map, Bool, true, false, cond, ◌||◌, not, List, [], ◌∷◌, ◌++◌, length, Some, None, refl, sym, ap, subst, ◌∙◌, arith}
use Rattle.std.specs.List.{Contains}
use Rattle.std.specs.Prelude.{slice_index_or}
use Rattle.std.specs.Str.{bytes_eq}
use Rattle.std.proofs.lemmas.Bool.{and_parts}
use Rattle.std.proofs.lemmas.Slice.Eq.{bytes_eq-Decides}
use Rattle.dk_pqmodel.specs.Projection.{Path}
use Rattle.dk_pqmodel.specs.Datum.{Column}
use Rattle.dk_pqmodel.specs.Footer.{Chunk, RowGroup, is_path, has_path, is_new_each}
use Rattle.dk_pqmodel.specs.FileMeans.{HasTriples, HasColumn, HasColumns}
use Rattle.dk_pqmodel.specs.FilePages.{ColumnAt}
use Rattle.dk_pqmodel.specs.declared.fault.PqFault.{PqFault}
use Rattle.dk_pqread.specs.ColumnView.{column_at}
use Rattle.dk_pqread.specs.Meanings.{RefusesMeaning}
use Rattle.dk_pqmodel.specs.Scans.{chunk_at}
use Rattle.dk_pqread.specs.declared.column.Column as code
use Rattle.dk_pqread.proofs.ChunkPages.{chunk_once}
use Rattle.dk_pqread.proofs.Finding.{refuses_by}
use Rattle.dk_pqread.proofs.PartLaws.{none_is_not_some, some_is}

abbrev Placed : Type 0
Placed = Path × Chunk

path_is : (a b : Path) → is_path a b ≡ true → a ≡ b
path_is [] [] e = refl
path_is [] (y ∷ ys) e = cc
path_is (x ∷ xs) [] e = cc
path_is (x ∷ xs) (y ∷ ys) e =
    let both = and_parts (bytes_eq x y) (is_path xs ys) e in
    ap (λ z. z ∷ xs) ((bytes_eq-Decides x y).0 both.0) ∙ ap (λ zs. y ∷ zs) (path_is xs ys both.1)

path_self : (a : Path) → is_path a a ≡ true
path_self [] = refl
path_self (x ∷ xs) = rw ((bytes_eq-Decides x x).1 refl) (path_self xs)

-- the chunk that is found is the path's
pub chunk_there : (path : Path) (cs : List Placed) (chunk : Chunk) → chunk_at path cs ≡ Some chunk → Contains cs (path, chunk)
chunk_there path [] chunk h = absurd (none_is_not_some chunk h)
chunk_there path (c ∷ cs) chunk h = by_path (is_path path c.0) refl h (chunk_there path cs chunk)
  where
    by_path : (b : Bool) → is_path path c.0 ≡ b → cond b (Some c.1) (chunk_at path cs) ≡ Some chunk → (chunk_at path cs ≡ Some chunk → Contains cs (path, chunk)) → Contains (c ∷ cs) (path, chunk)
    by_path true is g behind = (
        let same : c.1 ≡ chunk = some_is c.1 chunk g in
        let name : path ≡ c.0 = path_is path c.0 is in
        (0, omega arith, ap (λ (p : Path). (p, c.1)) (sym name) ∙ ap (λ (x : Chunk). (path, x)) same))
    by_path false is g behind = (let rest = behind g in (suc rest.0, omega (arith, rest.1), rest.2))

-- ---- and where paths are distinct, the path's chunk is found

either_false : (a b : Bool) → (a || b) ≡ false → (a ≡ false) × (b ≡ false)
either_false false false e = (refl, refl)
either_false false true e = cc
either_false true b e = cc

not_true : (a : Bool) → not a ≡ true → a ≡ false
not_true false e = refl
not_true true e = cc

has_more : (path : Path) (xs ys : List Placed) → has_path path (xs ++ ys) ≡ (has_path path xs || has_path path ys)
has_more path [] ys = refl
has_more path (x ∷ xs) ys = ap (λ b. is_path path x.0 || b) (has_more path xs ys) ∙ sym (or_again (is_path path x.0) (has_path path xs) (has_path path ys))
  where
    or_again : (a b c : Bool) → ((a || b) || c) ≡ (a || (b || c))
    or_again true b c = refl
    or_again false b c = refl

new_later : (before cs : List Placed) (x : Placed) (k : ℕ) → is_new_each before cs ≡ true → k < length cs → slice_index_or cs k x ≡ x → has_path (x.0) before ≡ false
new_later before [] x k new h is = absurd (omega arith)
new_later before (c ∷ cs) x zero new h is =
    let both = and_parts (not (has_path (c.0) before)) (is_new_each (before ++ (c ∷ [])) cs) new in
    ap (λ (y : Placed). has_path (y.0) before) (sym is) ∙ not_true (has_path (c.0) before) both.0
new_later before (c ∷ cs) x (suc k) new h is =
    let both = and_parts (not (has_path (c.0) before)) (is_new_each (before ++ (c ∷ [])) cs) new in
    let rest = new_later (before ++ (c ∷ [])) cs x k both.1 (omega arith) is in
    (either_false (has_path (x.0) before) (has_path (x.0) (c ∷ [])) (sym (has_more (x.0) before (c ∷ [])) ∙ rest)).0

at_place : (before cs : List Placed) (path : Path) (chunk : Chunk) (k : ℕ) → is_new_each before cs ≡ true → k < length cs → slice_index_or cs k (path, chunk) ≡ (path, chunk) → chunk_at path cs ≡ Some chunk
at_place before [] path chunk k new h is = absurd (omega arith)
at_place before (c ∷ cs) path chunk zero new h is =
    let name : path ≡ c.0 = sym (ap (λ (y : Placed). y.0) is) in
    let there : is_path path c.0 ≡ true = ap (λ (p : Path). is_path path p) (sym name) ∙ path_self path in
    rw there (ap (λ (y : Placed). Some y.1) is)
at_place before (c ∷ cs) path chunk (suc k) new h is =
    let both = and_parts (not (has_path (c.0) before)) (is_new_each (before ++ (c ∷ [])) cs) new in
    let later = new_later (before ++ (c ∷ [])) cs (path, chunk) k both.1 (omega arith) is in
    let apart = either_false (has_path path before) (has_path path (c ∷ [])) (sym (has_more path before (c ∷ [])) ∙ later) in
    let other : is_path path c.0 ≡ false = (either_false (is_path path c.0) false apart.1).0 in
    rw other (at_place (before ++ (c ∷ [])) cs path chunk k both.1 (omega arith) is)

pub chunk_only : (cs : List Placed) (path : Path) (chunk : Chunk) → is_new_each [] cs ≡ true → Contains cs (path, chunk) → chunk_at path cs ≡ Some chunk
chunk_only cs path chunk new h = at_place [] cs path chunk h.0 new h.1 h.2

-- ---- columns of a group, one after another

module _ (before : List ℕ) (group : RowGroup) where
  pub columns_more : (cs : List ColumnAt) (ts : List Column) (c : ColumnAt) (t : Column) → HasColumns before group cs ts → HasColumn before group c t → HasColumns before group (cs ++ c ∷ []) (ts ++ t ∷ [])
  columns_more [] [] c t h one = (one, tt)
  columns_more [] (y ∷ ts) c t h one = absurd h
  columns_more (x ∷ cs) [] c t h one = absurd h
  columns_more (x ∷ cs) (y ∷ ts) c t h one = (h.0, columns_more cs ts c t h.1 one)

  -- the column at a place has triples, where all have
  pub column_in : (cs : List code.Column) (i : ℕ) (c : code.Column) (ts : List Column) → i < length cs → c ≡ get_or cs i c → HasColumns before group (map column_at cs) ts → (t : Column) × HasColumn before group (column_at c) t
  column_in [] i c ts h is all = absurd (omega arith)
  column_in (x ∷ cs) i c [] h is all = absurd all
  column_in (x ∷ cs) zero c (t ∷ ts) h is all = (t, subst (λ (y : code.Column). HasColumn before group (column_at y) t) (sym is) all.0)
  column_in (x ∷ cs) (suc i) c (t ∷ ts) h is all = column_in cs i c ts (omega arith) is all.1

  module _ (distinct : is_new_each [] group.columns ≡ true) where
    column_once : (c : ColumnAt) (a b : Column) → HasColumn before group c a → HasColumn before group c b → a ≡ b
    column_once c a b (chunk, there, held) (other, place, hold) =
        let same : other ≡ chunk = some_is other chunk (sym (chunk_only group.columns c.path other distinct place) ∙ chunk_only group.columns c.path chunk distinct there) in
        chunk_once before c chunk a b held (subst (λ (k : Chunk). HasTriples before c k b) same hold)

    pub columns_once : (cs : List ColumnAt) (a b : List Column) → HasColumns before group cs a → HasColumns before group cs b → a ≡ b
    columns_once [] [] [] first second = refl
    columns_once [] [] (y ∷ b) first second = absurd second
    columns_once [] (x ∷ a) b first second = absurd first
    columns_once (c ∷ cs) [] b first second = absurd first
    columns_once (c ∷ cs) (x ∷ a) [] first second = absurd second
    columns_once (c ∷ cs) (x ∷ a) (y ∷ b) first second = ap (λ z. z ∷ a) (column_once c x y first.0 second.0) ∙ ap (λ zs. y ∷ zs) (columns_once cs a b first.1 second.1)

    -- a chunk that is refused refuses its column
    pub chunk_refused : (c : ColumnAt) (chunk : Chunk) (fault : PqFault) → chunk_at c.path group.columns ≡ Some chunk → RefusesMeaning fault (HasTriples before c chunk) → RefusesMeaning fault (HasColumn before group c)
    chunk_refused c chunk fault found h =
        refuses_by fault (HasTriples before c chunk) (HasColumn before group c)
        (λ t m. (
        let same : m.0 ≡ chunk = some_is m.0 chunk (sym (chunk_only group.columns c.path m.0 distinct m.1) ∙ found) in
        (t, subst (λ (k : Chunk). HasTriples before c k t) same m.2)))
        h

    pub no_chunk : (c : ColumnAt) → chunk_at c.path group.columns ≡ None → (t : Column) → HasColumn before group c t → ⊥
    no_chunk c none t m = none_is_not_some m.0 (sym none ∙ chunk_only group.columns c.path m.0 distinct m.1)

  pub columns_refused : (cs : List code.Column) (i : ℕ) (c : code.Column) (fault : PqFault) → i < length cs → c ≡ get_or cs i c → RefusesMeaning fault (HasColumn before group (column_at c)) → RefusesMeaning fault (HasColumns before group (map column_at cs))
  columns_refused cs i c fault h is bad = refuses_by fault (HasColumn before group (column_at c)) (HasColumns before group (map column_at cs)) (λ ts all. column_in cs i c ts h is all) bad
