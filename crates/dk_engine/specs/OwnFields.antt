-- A file of rows that has no other fields than those of a schema.
use Rattle.std.specs.Prelude.{◌≡◌, ℕ, Bool, true, ◌&&◌, List, IsSomeAnd, option_and_then}
use Rattle.dk_pqmodel.specs.Shape.{Shape, leaf, group, list, map_of, Field, field, Fields, no_fields, one_field, field_name}
use Rattle.dk_pqmodel.specs.Schema.{is_named}
use Rattle.dk_pqmodel.specs.Datum.{Cells}
use Rattle.dk_pqmodel.specs.FileMeans.{FileMeans}
use Rattle.dk_pqmodel.specs.FileSchema.{FileNode, FileNodes, no_nodes, one_node, node_name, children_of, named_in, repeated_node, only_node, two_nodes}

-- each node has the name of a field
abbrev pub are_named : FileNodes → Fields → Bool
are_named no_nodes fs = true
are_named (one_node n ns) fs = is_named (node_name n) fs && are_named ns fs

-- Each field has its node in the file, and each node of a group is that of a field, at every depth. The inner nodes of a list and of a
-- map are free in their names.
abbrev mutual
  pub HasOwnAt : Shape → FileNode → Type 0
  HasOwnAt (leaf l) n = Unit {0}
  HasOwnAt (group fs) n = (are_named (children_of n) fs ≡ true) × HasOwnEach fs (children_of n)
  HasOwnAt (list f) n = IsSomeAnd (option_and_then only_node (repeated_node n)) (HasOwnIn f)
  HasOwnAt (map_of f) n = IsSomeAnd (option_and_then two_nodes (repeated_node n)) (λ pair. HasOwnIn f pair.1)

  pub HasOwnIn : Field → FileNode → Type 0
  HasOwnIn (field name nullable s) n = HasOwnAt s n

  pub HasOwnEach : Fields → FileNodes → Type 0
  HasOwnEach no_fields ns = Unit {0}
  HasOwnEach (one_field f fs) ns = IsSomeAnd (named_in (field_name f) ns) (HasOwnIn f) × HasOwnEach fs ns

-- the fields of a file are these, and no others: at the top as in each group
abbrev pub HasOwnFields : Fields → FileNodes → Type 0
HasOwnFields fs ns = (are_named ns fs ≡ true) × HasOwnEach fs ns

-- The file means the rows, and its own schema has the fields alone.
pub record MeansAlone (fs : Fields) (bytes : List ℕ) (rows : Cells) : Type 0 where
  pub means : FileMeans fs bytes rows
  pub own : HasOwnFields fs means.footer.fields
