-- Values that are made one after another: those done and those left are all.
use Rattle.std.proofs.Common.{◌≡◌, ℕ, zero, suc, ◌+◌, ◌-◌, ◌<◌, ◌&&◌, ◌||◌, Bool, true, false, cond, not, List, [], ◌∷◌, ◌++◌, length, get_or, drop, map, Option, Some, None, option_map, option_and_then, is_some, string_bytes, string_eq, String, Vec, Global, Bor, nat_eq, refl, sym, ap, ◌∙◌, append_assoc, add-one, arith}
use Rattle.std.specs.Cmp.Lexicographic.{pointwise}
use Rattle.std.specs.List.{list_any}
use Rattle.indexmap.specs.IndexMap.{IndexMap, get}
use Rattle.indexmap.specs.Layout.{hash_map}
use Rattle.dk_pqmodel.specs.Projection.{Path}
use Rattle.dk_pqmodel.specs.FileSchema.{FileNode, FileNodes, one_node, node_name}
use Rattle.dk_pqmodel.specs.Footer.{◌>=◌, Chunk, ChunkFields, chunk_of, Element, each_of, is_path, has_path, is_among_names, is_new_each, are_new}
use Rattle.dk_pqmeta.specs.Trees.{each_node}
use Rattle.dk_pqmeta.specs.View.{columns_behind, column_view, nodes_behind, nodes_of, node_of, node_step}
use Rattle.dk_pqmeta.specs.declared.footer.Chunk as code
use Rattle.dk_pqmeta.specs.declared.footer.FileNode as node
use Rattle.dk_pqmeta.specs.declared.footer.FileNode.{fold_out-FileNode}
use Rattle.dk_pqmeta.specs.declared.footer.FileNode.TheViews.{out-FileNode}

left_over : (n i : ℕ) → i < n → n - i ≡ suc (n - (i + 1))
left_over n i h = omega arith

one_node_done : (done : List FileNode) (x : FileNode) (o : Option (List FileNode × List Element)) → nodes_behind done (o >= λ more. Some (x ∷ more.0, more.1)) ≡ nodes_behind (done ++ (x ∷ [])) o
one_node_done done x None = refl
one_node_done done x (Some y) = ap (λ ns. Some (ns, y.1)) (sym (append_assoc done (x ∷ []) y.0))

pub nodes_go_on : (read : List Element → Option (FileNode × List Element)) (n i : ℕ) (done : List FileNode) (es next : List Element) (x : FileNode) (whole : Option (List FileNode × List Element)) → i < n
    → read es ≡ Some (x, next) → nodes_behind done (each_node read (n - i) es) ≡ whole → nodes_behind (done ++ (x ∷ [])) (each_node read (n - (i + 1)) next) ≡ whole
nodes_go_on read n i done es next x whole h one all =
    sym (one_node_done done x (each_node read (n - (i + 1)) next)) ∙ sym (ap (nodes_behind done) (rw (left_over n i h, one) refl)) ∙ all

first_of : (done : List (Path × Chunk)) (x : Path × Chunk) (o : Option (List (Path × Chunk))) (b : Bool) → has_path (x.0) done ≡ b
    → option_and_then (λ more. cond (is_new_each done more) (Some (done ++ more)) None) (option_map (λ ys. x ∷ ys) o)
    ≡ cond b None (option_and_then (λ more. cond (is_new_each (done ++ (x ∷ [])) more) (Some ((done ++ (x ∷ [])) ++ more)) None) o)
first_of done x None true h = refl
first_of done x None false h = refl
first_of done x (Some ys) true h = rw h refl
first_of done x (Some ys) false h = rw (h, append_assoc done (x ∷ []) ys) refl

module _ (done : List (Path × Chunk)) (c : ChunkFields) (cs : List ChunkFields) (x : Path × Chunk) (whole : Option (List (Path × Chunk))) (e : chunk_of c ≡ Some x) (all : columns_behind done (c ∷ cs) ≡ whole) where
  opened : columns_behind done (c ∷ cs) ≡ option_and_then (λ more. cond (is_new_each done more) (Some (done ++ more)) None) (option_map (λ ys. x ∷ ys) (each_of chunk_of cs))
  opened = rw e refl

  pub columns_go_on : has_path (x.0) done ≡ false → columns_behind (done ++ (x ∷ [])) cs ≡ whole
  columns_go_on h = sym (opened ∙ first_of done x (each_of chunk_of cs) false h) ∙ all

  pub columns_refused : has_path (x.0) done ≡ true → whole ≡ None
  columns_refused h = sym all ∙ opened ∙ first_of done x (each_of chunk_of cs) true h

paths_same : (xs ys : List (String Global)) → pointwise string_eq xs ys ≡ is_path (map string_bytes xs) (map string_bytes ys)
paths_same [] [] = refl
paths_same [] (y ∷ ys) = refl
paths_same (x ∷ xs) [] = refl
paths_same (x ∷ xs) (y ∷ ys) = ap (λ b. string_eq x y && b) (paths_same xs ys)

some_or : {A : Type 0} (b : Bool) (x : A) (o : Option A) → is_some (cond b (Some x) o) ≡ (b || is_some o)
some_or true x o = refl
some_or false x o = refl

abbrev pub Key : Type 0
Key = Vec (String Global) Global

abbrev pub same_key : Key → Key → Bool
same_key x y = pointwise string_eq x.items y.items

abbrev with : List (Key × code.Chunk) → IndexMap Key code.Chunk (Unit {0})
with es = hash_map es tt 0

-- a path is found among the entries where it stands among the columns
pub path_found : (path : Key) (es : List (Key × code.Chunk)) → is_some (get same_key (with es) path) ≡ has_path (map string_bytes path.items) (map column_view es)
path_found path [] = refl
path_found path (e ∷ es) = some_or (same_key path e.0) e.1 (get same_key (with es) path) ∙ rw (paths_same path.items e.0.items, path_found path es) refl

pub name_found : (name : Bor (List ℕ)) (keys : List (Bor (List ℕ))) → list_any (λ (k : Bor (List ℕ)). pointwise nat_eq name.now k.now) keys ≡ is_among_names name.now (map (λ (k : Bor (List ℕ)). k.now) keys)
name_found name [] = refl
name_found name (k ∷ ks) = ap (λ b. pointwise nat_eq name.now k.now || b) (name_found name ks)

nodes_of-drop_suc : (ns : List node.FileNode) (i : ℕ) (n : node.FileNode) → i < length ns → n ≡ get_or ns i n → nodes_of (drop i ns) ≡ one_node (node_of n) (nodes_of (drop (suc i) ns))
nodes_of-drop_suc [] i n h e = absurd (omega arith)
nodes_of-drop_suc (m ∷ ns) zero n h e = ap (λ x. one_node (node_of x) (nodes_of ns)) (sym e)
nodes_of-drop_suc (m ∷ ns) (suc i) n h e = nodes_of-drop_suc ns i n (omega arith) e

pub nodes_of-drop : (ns : List node.FileNode) (i : ℕ) (n : node.FileNode) → i < length ns → n ≡ get_or ns i n → nodes_of (drop i ns) ≡ one_node (node_of n) (nodes_of (drop (i + 1) ns))
nodes_of-drop ns i n h e = rw add-one (nodes_of-drop_suc ns i n h e)

module _ (before : List (List ℕ)) (nodes : FileNodes) (n : FileNode) (ns : FileNodes) (name : List ℕ) (whole : Bool) (opened : nodes ≡ one_node n ns) (named : node_name n ≡ name) (all : are_new before nodes ≡ whole) where
  pub new_goes_on : is_among_names name before ≡ false → are_new (before ++ (name ∷ [])) ns ≡ whole
  new_goes_on h = sym (ap (are_new before) opened ∙ rw (named, h) refl) ∙ all

  pub new_refused : is_among_names name before ≡ true → whole ≡ false
  new_refused h = sym all ∙ ap (are_new before) opened ∙ rw (named, h) refl

pub name_of_node : (n : node.FileNode) → node_name (node_of n) ≡ string_bytes (out-FileNode n).name
name_of_node n = ap node_name (fold_out-FileNode FileNode node_step n)

pub none_is : {A : Type 0} (o : Option A) → is_some o ≡ false → o ≡ None
none_is None h = refl
none_is (Some x) h = cc

pub not_twice : (a b : Bool) → a ≡ not b → not a ≡ b
not_twice true true h = cc
not_twice true false h = refl
not_twice false true h = refl
not_twice false false h = cc
