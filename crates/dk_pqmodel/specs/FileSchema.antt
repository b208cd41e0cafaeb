-- A file's own schema as plain data (Apache Parquet, "Metadata": SchemaElement).
use Rattle.std.specs.Prelude.{ℕ, ℤ, pos, Bool, true, false, ◌&&◌, ◌||◌, ◌==◌, List, Option, Some, None, if◌then◌else◌}
use Rattle.std.specs.Ordering.{int_eq}
use Rattle.std.specs.Str.{bytes_eq}
use Rattle.dk_pqmodel.specs.Shape.{Leaf, flag, int32, int64, chars}

-- its name, its repetition (0 required, 1 optional, 2 repeated), its physical type if it is a leaf, and its children
mutual
  pub data FileNode : Type 0 where
    file_node : List ℕ → ℕ → Option ℤ → FileNodes → FileNode

  pub data FileNodes : Type 0 where
    no_nodes : FileNodes
    one_node : FileNode → FileNodes → FileNodes

abbrev pub node_name : FileNode → List ℕ
node_name (file_node name repetition physical children) = name

abbrev pub repetition_of : FileNode → ℕ
repetition_of (file_node name repetition physical children) = repetition

abbrev pub children_of : FileNode → FileNodes
children_of (file_node name repetition physical children) = children

abbrev pub physical_of : FileNode → Option ℤ
physical_of (file_node name repetition physical children) = physical

-- not repeated
abbrev pub is_single : FileNode → Bool
is_single node = (repetition_of node == 0) || (repetition_of node == 1)

abbrev pub is_optional : FileNode → Bool
is_optional node = repetition_of node == 1

abbrev pub is_repeated : FileNode → Bool
is_repeated node = repetition_of node == 2

abbrev pub has_children : FileNode → Bool
has_children (file_node name repetition physical no_nodes) = false
has_children (file_node name repetition physical (one_node n ns)) = true

-- the node of the name, in a group
abbrev pub named_in : List ℕ → FileNodes → Option FileNode
named_in name no_nodes = None
named_in name (one_node n ns) = if bytes_eq name (node_name n) then Some n else named_in name ns

abbrev pub some_when : {A : Type 0} → Bool → A → Option A
some_when true x = Some x
some_when false x = None

-- the kind of a leaf that holds what is wanted: BOOLEAN 0, INT32 1, INT64 2, BYTE_ARRAY 6
abbrev pub kind_at : Leaf → ℤ → Option Leaf
kind_at flag physical = some_when (int_eq physical (pos 0)) flag
kind_at int32 physical = if int_eq physical (pos 1) then Some int32 else some_when (int_eq physical (pos 2)) int64
kind_at int64 physical = if int_eq physical (pos 1) then Some int32 else some_when (int_eq physical (pos 2)) int64
kind_at chars physical = some_when (int_eq physical (pos 6)) chars

-- the kind as which a wanted leaf is read there
abbrev pub leaf_kind : Leaf → FileNode → Option Leaf
leaf_kind l (file_node name repetition (Some physical) no_nodes) = if is_single (file_node name repetition None no_nodes) then kind_at l physical else None
leaf_kind l node = None

-- the fields of a group
abbrev pub group_nodes : FileNode → Option FileNodes
group_nodes node = some_when (is_single node && has_children node) (children_of node)

-- the one repeated node of a list or a map
abbrev pub repeated_node : FileNode → Option FileNode
repeated_node (file_node name repetition physical (one_node n no_nodes)) = some_when (is_single (file_node name repetition physical no_nodes) && is_repeated n) n
repeated_node node = None

-- the one node of the repeated node
abbrev pub only_node : FileNode → Option FileNode
only_node (file_node name repetition physical (one_node n no_nodes)) = Some n
only_node node = None

-- its two nodes, a key and a value
abbrev pub two_nodes : FileNode → Option (FileNode × FileNode)
two_nodes (file_node name repetition physical (one_node k (one_node v no_nodes))) = Some (k, v)
two_nodes node = None
