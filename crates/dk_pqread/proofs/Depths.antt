-- A schema is laid over no more levels than it has.
use Rattle.std.proofs.Common.{ℕ, ◌+◌, ◌*◌, ◌<◌, ◌≤◌, Bool, true, false, cond, Option, Some, None, ◌∷◌, [], ◌++◌, arith}
use Rattle.dk_pqmodel.specs.Shape.{chars, Shape, leaf, map_of, Field, field, Fields, no_fields, one_field}
use Rattle.dk_pqmodel.specs.Shape as shape
use Rattle.dk_pqmodel.specs.Schema.{levels_at, levels_in, levels_of, IsSchema}
use Rattle.dk_pqmodel.specs.FileSchema.{FileNode, FileNodes, node_name, is_optional, named_in, leaf_kind, group_nodes, repeated_node, only_node, two_nodes}
use Rattle.dk_pqmodel.specs.Projection.{Path, Plan, missing, value, members, elements, entries, Plans, all_missing, is_missing, on_some, members_of, elements_of, entries_of, projection_at, projection_in, projection_each, projection_named, projection}
use Rattle.dk_pqmodel.specs.FileMeans.{one_if}
use Rattle.dk_pqread.specs.Depth.{depth_in, depth_of}

if_most : (b : Bool) → one_if b ≤ 1
if_most true = omega arith
if_most false = omega arith

on_some_deep : {A : Type 0} (o : Option A) (f : A → Plan) (n : ℕ) → ((x : A) → depth_in (f x) ≤ n) → depth_in (on_some o f) ≤ n
on_some_deep None f n h = omega arith
on_some_deep (Some x) f n h = h x

members_deep : (b : Bool) (ps : Plans) (n : ℕ) → depth_of ps ≤ n → depth_in (members_of b ps) ≤ 1 + n
members_deep b ps n h = by_all (all_missing ps)
  where
    by_all : (c : Bool) → depth_in (cond c missing (members b ps)) ≤ 1 + n
    by_all true = omega arith
    by_all false = omega (arith, if_most b, h)

elements_deep : (b : Bool) (p : Plan) (n : ℕ) → depth_in p ≤ n → depth_in (elements_of b p) ≤ 2 + n
elements_deep b p n h = by_missing (is_missing p)
  where
    by_missing : (c : Bool) → depth_in (cond c missing (elements b p)) ≤ 2 + n
    by_missing true = omega arith
    by_missing false = omega (arith, if_most b, h)

entries_deep : (b : Bool) (k : FileNode) (path : Path) (p : Plan) (n : ℕ) → 1 ≤ n → depth_in p ≤ n → depth_in (entries_of b k path p) ≤ 2 + n
entries_deep b k path p n some h = on_some_deep (leaf_kind chars k) (λ l. entries b (is_optional k) path p) (2 + n) (λ l. omega (arith, if_most b, if_most (is_optional k), h, some))

mutual
  at_deep : (s : Shape) (path : Path) (n : FileNode) → depth_in (projection_at s path n) ≤ 2 * levels_at s + 1
  at_deep (leaf l) path n = on_some_deep (leaf_kind l n) (λ kind. value (is_optional n) kind path) 1 (λ kind. if_most (is_optional n))
  at_deep (shape.group fs) path n =
      on_some_deep (group_nodes n) (λ ns. members_of (is_optional n) (projection_each fs path ns)) (2 * levels_of fs + 1)
      (λ ns. (let h = members_deep (is_optional n) (projection_each fs path ns) (2 * levels_of fs) (each_deep fs path ns) in omega (arith, h)))
  at_deep (shape.list f) path n =
      on_some_deep (repeated_node n) (λ r. on_some (only_node r) (λ e. elements_of (is_optional n) (projection_in f (path ++ node_name r ∷ node_name e ∷ []) e))) (2 * levels_in f + 1)
      (λ r. on_some_deep (only_node r) (λ e. elements_of (is_optional n) (projection_in f (path ++ node_name r ∷ node_name e ∷ []) e)) (2 * levels_in f + 1)
      (λ e. list_deep f (path ++ node_name r ∷ node_name e ∷ []) e (is_optional n)))
  at_deep (map_of f) path n =
      on_some_deep (repeated_node n) (λ r. on_some (two_nodes r) (λ pair.
      entries_of (is_optional n) pair.0 (path ++ node_name r ∷ node_name pair.0 ∷ []) (projection_in f (path ++ node_name r ∷ node_name pair.1 ∷ []) pair.1))) (2 * levels_in f + 1)
      (λ r. on_some_deep (two_nodes r) (λ pair.
      entries_of (is_optional n) pair.0 (path ++ node_name r ∷ node_name pair.0 ∷ []) (projection_in f (path ++ node_name r ∷ node_name pair.1 ∷ []) pair.1)) (2 * levels_in f + 1)
      (λ pair. map_deep f (path ++ node_name r ∷ node_name pair.0 ∷ []) (path ++ node_name r ∷ node_name pair.1 ∷ []) (is_optional n) pair.0 pair.1))

  list_deep : (f : Field) (path : Path) (e : FileNode) (b : Bool) → depth_in (elements_of b (projection_in f path e)) ≤ 2 * levels_in f + 1
  list_deep (field name nullable s) path e b =
      let h = elements_deep b (projection_at s path e) (2 * levels_at s + 1) (at_deep s path e) in omega (arith, h)

  map_deep : (f : Field) (key_path path : Path) (b : Bool) (k e : FileNode) → depth_in (entries_of b k key_path (projection_in f path e)) ≤ 2 * levels_in f + 1
  map_deep (field name nullable s) key_path path b k e =
      let h = entries_deep b k key_path (projection_at s path e) (2 * levels_at s + 1) (omega arith) (at_deep s path e) in omega (arith, h)

  each_deep : (fs : Fields) (path : Path) (ns : FileNodes) → depth_of (projection_each fs path ns) ≤ 2 * levels_of fs
  each_deep no_fields path ns = omega arith
  each_deep (one_field f fs) path ns =
      let first = named_deep f path ns in
      let rest = each_deep fs path ns in
      omega (arith, first, rest)

  named_deep : (f : Field) (path : Path) (ns : FileNodes) → depth_in (projection_named f path ns) ≤ 2 * levels_in f
  named_deep (field name nullable s) path ns =
      on_some_deep (named_in name ns) (λ n. projection_at s (path ++ name ∷ []) n) (2 * (1 + levels_at s)) (λ n. omega (arith, at_deep s (path ++ name ∷ []) n))

pub schema_deep : (fs : Fields) (ns : FileNodes) → IsSchema fs → 0 + depth_of (projection fs ns) < 256
schema_deep fs ns is = omega (arith, each_deep fs [] ns, is.levels)
