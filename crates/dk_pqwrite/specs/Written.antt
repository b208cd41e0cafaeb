-- The schema that is written into a file for a wanted one.
use Rattle.std.specs.Prelude.{ℕ, ℤ, pos, List, codes, Option, Some, None}
use Rattle.dk_pqmodel.specs.Shape.{Shape, leaf, map_of, Field, field, Fields, no_fields, one_field}
use Rattle.dk_pqmodel.specs.Shape as shape
use Rattle.dk_pqmodel.specs.FileSchema.{FileNode, file_node, FileNodes, no_nodes, one_node}
use Rattle.dk_pqmodel.specs.FilePages.{physical_type}
use Rattle.dk_pqmodel.specs.FileMeans.{one_if}

-- a leaf has a physical type
abbrev pub physical_at : Shape → Option ℤ
physical_at (leaf l) = Some (physical_type l)
physical_at (shape.group fs) = None
physical_at (shape.list f) = None
physical_at (map_of f) = None

-- what other readers take a field for: a text is UTF8, 0, a list LIST, 3, and a map MAP, 1
abbrev pub converted_at : Shape → Option ℕ
converted_at (leaf shape.flag) = None
converted_at (leaf shape.int32) = None
converted_at (leaf shape.int64) = None
converted_at (leaf shape.chars) = Some 0
converted_at (shape.group fs) = None
converted_at (shape.list f) = Some 3
converted_at (map_of f) = Some 1

-- A field that may be null is optional, any other required. A list is a group of one repeated group `list` of one `element`, and a map
-- one of a repeated group `key_value` of a `key` and a `value`.
abbrev mutual
  pub written_as : List ℕ → Field → FileNode
  written_as name (field own nullable s) = file_node name (one_if nullable) (physical_at s) (nodes_at s)

  pub nodes_at : Shape → FileNodes
  nodes_at (leaf l) = no_nodes
  nodes_at (shape.group fs) = written_nodes fs
  nodes_at (shape.list f) = one_node (file_node (codes "list") 2 None (one_node (written_as (codes "element") f) no_nodes)) no_nodes
  nodes_at (map_of f) =
      one_node (file_node (codes "key_value") 2 None (one_node (file_node (codes "key") 0 (Some (pos 6)) no_nodes) (one_node (written_as (codes "value") f) no_nodes))) no_nodes

  pub written_in : Field → FileNode
  written_in (field name nullable s) = file_node name (one_if nullable) (physical_at s) (nodes_at s)

  pub written_nodes : Fields → FileNodes
  written_nodes no_fields = no_nodes
  written_nodes (one_field f fs) = one_node (written_in f) (written_nodes fs)
