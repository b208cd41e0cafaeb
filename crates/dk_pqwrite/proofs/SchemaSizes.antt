-- What a footer says of a schema and its columns has no more bytes than the schema's nodes are given.
use Rattle.std.proofs.Common.{◌≡◌, ◌≤◌, ℕ, ◌+◌, ◌*◌, Bool, ℤ, pos, Option, Some, None, List, [], ◌∷◌, ◌++◌, length, map, codes, sum_by, sym, subst, arith}
use Rattle.std.proofs.lemmas.List.{length-append, length-map}
use Rattle.std.proofs.lemmas.List.Sums.{sum_by-cons, sum_by-append}
use Rattle.dk_pqmodel.specs.Shape.{Shape, leaf, map_of, Field, field, Fields, no_fields, one_field}
use Rattle.dk_pqmodel.specs.Shape as shape
use Rattle.dk_pqmodel.specs.Schema.{levels_at, levels_in, levels_of, IsSchema}
use Rattle.dk_pqmodel.specs.FileMeans.{one_if, columns_of}
use Rattle.dk_pqmodel.specs.FileSchema.{FileNode, file_node, FileNodes, no_nodes, one_node}
use Rattle.dk_pqmodel.specs.Projection.{Path, paths_of, paths_of_all}
use Rattle.dk_pqmodel.specs.Weight.{node_bytes_at, node_bytes_in, node_bytes_of}
use Rattle.dk_pqwrite.specs.Elements.{element_said, said, said_of}
use Rattle.dk_pqwrite.specs.FooterSizes.{name_size, element_size, chunk_size}
use Rattle.dk_pqwrite.specs.OverItself.{own_plan_at, own_plan_in, own_plan_named, own_plans, column_path}
use Rattle.dk_pqwrite.specs.Written.{physical_at, written_as, nodes_at, written_in, written_nodes}
use Rattle.dk_pqwrite.proofs.OwnPaths.{paths_in_plans}

abbrev node_size : FileNode → ℕ
node_size n = sum_by element_size (said n)

abbrev nodes_size : FileNodes → ℕ
nodes_size ns = sum_by element_size (said_of ns)

-- what is said of columns with these paths, and 220 for the pages of each
abbrev columns_size : List Path → ℕ
columns_size paths = sum_by chunk_size paths + 220 * length paths

name_most : (name : List ℕ) → name_size name ≤ length name + 10
name_most name = omega arith

-- ---- sums

node_is : (name : List ℕ) (repetition : ℕ) (physical : Option ℤ) (children : FileNodes) → node_size (file_node name repetition physical children) ≡ 26 + name_size name + nodes_size children
node_is name repetition physical children = sum_by-cons element_size (element_said (file_node name repetition physical children)) (said_of children)

nodes_are : (n : FileNode) (ns : FileNodes) → nodes_size (one_node n ns) ≡ node_size n + nodes_size ns
nodes_are n ns = sum_by-append element_size (said n) (said_of ns)

list_is : (f : Field) → nodes_size (nodes_at (shape.list f)) ≡ 31 + node_size (written_as (codes "element") f)
list_is f =
    let element = written_as (codes "element") f in
    omega (
      arith,
      nodes_are (file_node (codes "list") 2 None (one_node element no_nodes)) no_nodes,
      node_is (codes "list") 2 None (one_node element no_nodes),
      nodes_are element no_nodes,
    )

map_is : (f : Field) → nodes_size (nodes_at (map_of f)) ≡ 66 + node_size (written_as (codes "value") f)
map_is f =
    let key = file_node (codes "key") 0 (Some (pos 6)) no_nodes in
    let value = written_as (codes "value") f in
    omega (
      arith,
      nodes_are (file_node (codes "key_value") 2 None (one_node key (one_node value no_nodes))) no_nodes,
      node_is (codes "key_value") 2 None (one_node key (one_node value no_nodes)),
      nodes_are key (one_node value no_nodes),
      node_is (codes "key") 0 (Some (pos 6)) no_nodes,
      nodes_are value no_nodes,
    )

column_more : (path : Path) (paths : List Path) → columns_size (path ∷ paths) ≡ 320 + sum_by name_size path + columns_size paths
column_more path paths = omega (arith, sum_by-cons chunk_size path paths)

columns_both : (a b : List Path) → columns_size (a ++ b) ≡ columns_size a + columns_size b
columns_both a b = omega (arith, sum_by-append chunk_size a b, length-append a b)

-- ---- node by node

-- The names on a path have 16 bytes a level, and their own lengths.
mutual
  -- what stands below a node, and its own column
  at_size : (s : Shape) (b : Bool) (path : Path) (above around : ℕ) → sum_by name_size path ≤ 16 * above + around → above + levels_at s ≤ 32
      → nodes_size (nodes_at s) + columns_size (paths_of (own_plan_at s b path)) ≤ 988 + around + node_bytes_at around s
  at_size (leaf l) b path above around names levels = omega (arith, column_more path [], names, levels)
  at_size (shape.group fs) b path above around names levels = omega (arith, each_size fs path above around names levels)
  at_size (shape.list f) b path above around names levels =
      let more = codes "list" ∷ codes "element" ∷ [] in
      let element = as_size f (codes "element") (path ++ more) above around (omega arith) (omega (arith, sum_by-append name_size path more, names)) levels in
      omega (arith, list_is f, element)
  at_size (map_of f) b path above around names levels =
      let key = codes "key_value" ∷ codes "key" ∷ [] in
      let more = codes "key_value" ∷ codes "value" ∷ [] in
      let value = as_size f (codes "value") (path ++ more) above around (omega arith) (omega (arith, sum_by-append name_size path more, names)) levels in
      omega (arith, map_is f, column_more (path ++ key) (paths_of (own_plan_in f (path ++ more))), sum_by-append name_size path key, value, names, levels)

  -- an element of a list or a value of a map, whose own name isn't written
  as_size : (f : Field) (name : List ℕ) (path : Path) (above around : ℕ) → name_size name ≤ 8 → sum_by name_size path ≤ 16 * (above + 1) + around → above + levels_in f ≤ 32
      → node_size (written_as name f) + columns_size (paths_of (own_plan_in f path)) ≤ node_bytes_in around f
  as_size (field own b s) name path above around short names levels =
      let inside = at_size s b path (above + 1) (around + length own) (omega (arith, names)) (omega (arith, levels)) in
      omega (arith, node_is name (one_if b) (physical_at s) (nodes_at s), short, inside)

  field_size : (f : Field) (path : Path) (above around : ℕ) → sum_by name_size path ≤ 16 * above + around → above + levels_in f ≤ 32
      → node_size (written_in f) + columns_size (paths_of (own_plan_named f path)) ≤ node_bytes_in around f
  field_size (field name b s) path above around names levels =
      let most = name_most name in
      let longer = sum_by-append name_size path (name ∷ []) in
      let inside = at_size s b (path ++ name ∷ []) (above + 1) (around + length name) (omega (arith, longer, names, most)) (omega (arith, levels)) in
      omega (arith, node_is name (one_if b) (physical_at s) (nodes_at s), most, inside)

  each_size : (fs : Fields) (path : Path) (above around : ℕ) → sum_by name_size path ≤ 16 * above + around → above + levels_of fs ≤ 32
      → nodes_size (written_nodes fs) + columns_size (paths_of_all (own_plans fs path)) ≤ node_bytes_of around fs
  each_size no_fields path above around names levels = omega arith
  each_size (one_field f fs) path above around names levels =
      let first = field_size f path above around names (omega (arith, levels)) in
      let rest = each_size fs path above around names (omega (arith, levels)) in
      omega (arith, nodes_are (written_in f) (written_nodes fs), columns_both (paths_of (own_plan_named f path)) (paths_of_all (own_plans fs path)), first, rest)

pub schema_size : (fs : Fields) → IsSchema fs
    → sum_by element_size (said_of (written_nodes fs)) + sum_by chunk_size (map column_path (columns_of (own_plans fs []) 0 0)) + 220 * length (columns_of (own_plans fs []) 0 0) ≤ node_bytes_of 0 fs
schema_size fs is =
    let columns = columns_of (own_plans fs []) 0 0 in
    let size = each_size fs [] 0 0 (omega arith) (omega (arith, is.levels)) in
    let named = subst (λ paths. nodes_size (written_nodes fs) + columns_size paths ≤ node_bytes_of 0 fs) (sym (paths_in_plans (own_plans fs []) 0 0)) size in
    omega (arith, named, length-map columns column_path)
