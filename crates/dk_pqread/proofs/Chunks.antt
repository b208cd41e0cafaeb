-- Chunks are looked up by the paths of their columns.
use Rattle.std.proofs.Common.{◌≡◌, ◌&&◌, Bool, true, false, cond, List, [], ◌∷◌, map, Option, Some, None, string_eq, String, Vec, Global, Bor, refl, ap, ◌∙◌}
use Rattle.std.specs.Option.{option_map, option_copied}
use Rattle.std.specs.Cmp.Lexicographic.{pointwise}
use Rattle.indexmap.specs.IndexMap.{IndexMap, get}
use Rattle.indexmap.specs.Layout.{hash_map}
use Rattle.dk_pqmodel.specs.Footer.{is_path}
use Rattle.dk_pqmeta.specs.View.{chunk_view, column_view}
use Rattle.dk_pqmeta.specs.declared.footer.Chunk as code
use Rattle.dk_pqread.specs.PlanView.{path_of}
use Rattle.dk_pqmodel.specs.Scans.{chunk_at}

paths_same : (xs ys : List (String Global)) → pointwise string_eq xs ys ≡ is_path (path_of xs) (path_of ys)
paths_same [] [] = refl
paths_same [] (y ∷ ys) = refl
paths_same (x ∷ xs) [] = refl
paths_same (x ∷ xs) (y ∷ ys) = ap (λ b. string_eq x y && b) (paths_same xs ys)

abbrev pub Key : Type 0
Key = Vec (String Global) Global

abbrev pub same_key : Key → Key → Bool
same_key x y = pointwise string_eq x.items y.items

abbrev with : List (Key × code.Chunk) → IndexMap Key code.Chunk (Unit {0})
with es = hash_map es tt 0

first_viewed : (b : Bool) (x : code.Chunk) (o : Option code.Chunk) → option_map chunk_view (cond b (Some x) o) ≡ cond b (Some (chunk_view x)) (option_map chunk_view o)
first_viewed true x o = refl
first_viewed false x o = refl

-- the chunk that is found among the entries is that of the path
pub chunk_found : (path : Key) (es : List (Key × code.Chunk)) → option_map chunk_view (get same_key (with es) path) ≡ chunk_at (path_of path.items) (map column_view es)
chunk_found path [] = refl
chunk_found path (e ∷ es) = first_viewed (same_key path e.0) e.1 (get same_key (with es) path) ∙ rw (paths_same path.items e.0.items, chunk_found path es) refl

pub viewed : (o : Option (Bor code.Chunk)) → option_map (λ c. chunk_view c.now) o ≡ option_map chunk_view (option_copied o)
viewed None = refl
viewed (Some c) = refl
