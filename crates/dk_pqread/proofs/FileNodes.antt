-- Nodes of a file's schema, part by part.
use Rattle.std.proofs.Common.{◌≡◌, ℕ, zero, suc, ◌+◌, ◌<◌, Bool, true, false, ◌&&◌, ℤ, Option, Some, None, List, [], ◌∷◌, length, get_or, drop, string_bytes, refl, sym, ap, ◌∙◌, add-one, arith}
use Rattle.dk_pqmodel.specs.Shape.{Leaf}
use Rattle.dk_pqmodel.specs.FileSchema.{FileNode, file_node, no_nodes, one_node, node_name, repetition_of, physical_of, is_single, group_nodes, leaf_kind, kind_at, only_node, two_nodes, some_when}
use Rattle.dk_pqmeta.specs.View.{node_of, nodes_of, node_step}
use Rattle.dk_pqmeta.specs.declared.footer.FileNode as code
use Rattle.dk_pqmeta.specs.declared.footer.FileNode.{fold_out-FileNode}
use Rattle.dk_pqmeta.specs.declared.footer.FileNode.TheViews.{out-FileNode}

pub node_is : (n : code.FileNode) → node_of n ≡ file_node (string_bytes (out-FileNode n).name) (out-FileNode n).repetition (out-FileNode n).physical (nodes_of (out-FileNode n).children.items)
node_is n = fold_out-FileNode FileNode node_step n

pub repetition_is : (n : code.FileNode) → repetition_of (node_of n) ≡ (out-FileNode n).repetition
repetition_is n = ap repetition_of (node_is n)

pub name_is : (n : code.FileNode) → node_name (node_of n) ≡ string_bytes (out-FileNode n).name
name_is n = ap node_name (node_is n)

nodes_of-drop_suc : (ns : List code.FileNode) (i : ℕ) (n : code.FileNode) → i < length ns → n ≡ get_or ns i n → nodes_of (drop i ns) ≡ one_node (node_of n) (nodes_of (drop (suc i) ns))
nodes_of-drop_suc [] i n h e = absurd (omega arith)
nodes_of-drop_suc (m ∷ ns) zero n h e = ap (λ x. one_node (node_of x) (nodes_of ns)) (sym e)
nodes_of-drop_suc (m ∷ ns) (suc i) n h e = nodes_of-drop_suc ns i n (omega arith) e

pub nodes_of-drop : (ns : List code.FileNode) (i : ℕ) (n : code.FileNode) → i < length ns → n ≡ get_or ns i n → nodes_of (drop i ns) ≡ one_node (node_of n) (nodes_of (drop (i + 1) ns))
nodes_of-drop ns i n h e = rw add-one (nodes_of-drop_suc ns i n h e)

pub physical_is : (n : code.FileNode) → physical_of (node_of n) ≡ (out-FileNode n).physical
physical_is n = ap physical_of (node_is n)

abbrev pub inner_of : code.FileNode → List code.FileNode
inner_of n = (out-FileNode n).children.items

-- ---- groups

group_by : (name : List ℕ) (rep : ℕ) (physical : Option ℤ) (ns : List code.FileNode) → is_single (file_node name rep physical (nodes_of ns)) ≡ true → 0 < length ns
    → group_nodes (file_node name rep physical (nodes_of ns)) ≡ Some (nodes_of ns)
group_by name rep physical [] single some = absurd (omega arith)
group_by name rep physical (x ∷ ns) single some = rw single refl

pub group_found : (n : code.FileNode) → is_single (node_of n) ≡ true → 0 < length (inner_of n) → group_nodes (node_of n) ≡ Some (nodes_of (inner_of n))
group_found n single some =
    let opened = node_is n in
    ap group_nodes opened ∙ group_by (string_bytes (out-FileNode n).name) (out-FileNode n).repetition (out-FileNode n).physical (inner_of n) (sym (ap is_single opened) ∙ single) some

pub group_repeated : (n : code.FileNode) → is_single (node_of n) ≡ false → group_nodes (node_of n) ≡ None
group_repeated n single = rw single refl

empty_group : (name : List ℕ) (rep : ℕ) (physical : Option ℤ) (ns : List code.FileNode) → length ns ≡ 0 → group_nodes (file_node name rep physical (nodes_of ns)) ≡ None
empty_group name rep physical [] none = by_single (is_single (file_node name rep physical no_nodes))
  where
    by_single : (b : Bool) → some_when (b && false) no_nodes ≡ None
    by_single true = refl
    by_single false = refl
empty_group name rep physical (x ∷ ns) none = absurd (omega arith)

pub group_empty : (n : code.FileNode) → length (inner_of n) ≡ 0 → group_nodes (node_of n) ≡ None
group_empty n none = ap group_nodes (node_is n) ∙ empty_group (string_bytes (out-FileNode n).name) (out-FileNode n).repetition (out-FileNode n).physical (inner_of n) none

-- ---- leaves

leaf_by : (l : Leaf) (name : List ℕ) (rep : ℕ) (p : ℤ) (physical : Option ℤ) (ns : List code.FileNode) → physical ≡ Some p → length ns ≡ 0
    → is_single (file_node name rep physical (nodes_of ns)) ≡ true → leaf_kind l (file_node name rep physical (nodes_of ns)) ≡ kind_at l p
leaf_by l name rep p None ns e none single = cc
leaf_by l name rep p (Some q) [] e none single = (let same : q ≡ p = cc in rw single (ap (kind_at l) same))
leaf_by l name rep p (Some q) (x ∷ ns) e none single = absurd (omega arith)

pub leaf_found : (l : Leaf) (n : code.FileNode) (p : ℤ) → (out-FileNode n).physical ≡ Some p → length (inner_of n) ≡ 0 → is_single (node_of n) ≡ true → leaf_kind l (node_of n) ≡ kind_at l p
leaf_found l n p e none single =
    let opened = node_is n in
    ap (leaf_kind l) opened ∙ leaf_by l (string_bytes (out-FileNode n).name) (out-FileNode n).repetition p (out-FileNode n).physical (inner_of n) e none (sym (ap is_single opened) ∙ single)

untyped_by : (l : Leaf) (name : List ℕ) (rep : ℕ) (physical : Option ℤ) (ns : List code.FileNode) → physical ≡ None → leaf_kind l (file_node name rep physical (nodes_of ns)) ≡ None
untyped_by l name rep None [] e = refl
untyped_by l name rep None (x ∷ ns) e = refl
untyped_by l name rep (Some p) ns e = cc

filled_by : (l : Leaf) (name : List ℕ) (rep : ℕ) (physical : Option ℤ) (ns : List code.FileNode) → 0 < length ns → leaf_kind l (file_node name rep physical (nodes_of ns)) ≡ None
filled_by l name rep physical [] some = absurd (omega arith)
filled_by l name rep None (x ∷ ns) some = refl
filled_by l name rep (Some p) (x ∷ ns) some = refl

repeated_by : (l : Leaf) (name : List ℕ) (rep : ℕ) (physical : Option ℤ) (ns : List code.FileNode) → is_single (file_node name rep physical (nodes_of ns)) ≡ false
    → leaf_kind l (file_node name rep physical (nodes_of ns)) ≡ None
repeated_by l name rep None [] repeated = refl
repeated_by l name rep None (x ∷ ns) repeated = refl
repeated_by l name rep (Some p) (x ∷ ns) repeated = refl
repeated_by l name rep (Some p) [] repeated = rw repeated refl

pub no_type : (l : Leaf) (n : code.FileNode) → (out-FileNode n).physical ≡ None → leaf_kind l (node_of n) ≡ None
no_type l n none = ap (leaf_kind l) (node_is n) ∙ untyped_by l (string_bytes (out-FileNode n).name) (out-FileNode n).repetition (out-FileNode n).physical (inner_of n) none

pub no_leaf : (l : Leaf) (n : code.FileNode) → 0 < length (inner_of n) → leaf_kind l (node_of n) ≡ None
no_leaf l n some = ap (leaf_kind l) (node_is n) ∙ filled_by l (string_bytes (out-FileNode n).name) (out-FileNode n).repetition (out-FileNode n).physical (inner_of n) some

pub repeated_leaf : (l : Leaf) (n : code.FileNode) → is_single (node_of n) ≡ false → leaf_kind l (node_of n) ≡ None
repeated_leaf l n repeated =
    ap (leaf_kind l) (node_is n) ∙ repeated_by l (string_bytes (out-FileNode n).name) (out-FileNode n).repetition (out-FileNode n).physical (inner_of n) (sym (ap is_single (node_is n)) ∙ repeated)

-- ---- one node, or two

not_one_by : (name : List ℕ) (rep : ℕ) (physical : Option ℤ) (ns : List code.FileNode) → (length ns ≡ 1 → ⊥) → only_node (file_node name rep physical (nodes_of ns)) ≡ None
not_one_by name rep physical [] h = refl
not_one_by name rep physical (x ∷ []) h = absurd (h refl)
not_one_by name rep physical (x ∷ y ∷ ns) h = refl

pub not_one : (n : code.FileNode) → (length (inner_of n) ≡ 1 → ⊥) → only_node (node_of n) ≡ None
not_one n h = ap only_node (node_is n) ∙ not_one_by (string_bytes (out-FileNode n).name) (out-FileNode n).repetition (out-FileNode n).physical (inner_of n) h

not_two_by : (name : List ℕ) (rep : ℕ) (physical : Option ℤ) (ns : List code.FileNode) → (length ns ≡ 2 → ⊥) → two_nodes (file_node name rep physical (nodes_of ns)) ≡ None
not_two_by name rep physical [] h = refl
not_two_by name rep physical (x ∷ []) h = refl
not_two_by name rep physical (x ∷ y ∷ []) h = absurd (h refl)
not_two_by name rep physical (x ∷ y ∷ z ∷ ns) h = refl

pub not_two : (n : code.FileNode) → (length (inner_of n) ≡ 2 → ⊥) → two_nodes (node_of n) ≡ None
not_two n h = ap two_nodes (node_is n) ∙ not_two_by (string_bytes (out-FileNode n).name) (out-FileNode n).repetition (out-FileNode n).physical (inner_of n) h
