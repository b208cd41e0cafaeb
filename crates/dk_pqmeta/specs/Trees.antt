-- The tree of the schema, from the flat list of its elements.
use Rattle.std.specs.Prelude.{ℕ, zero, suc, ◌==◌, nat_le, if◌then◌else◌, ℤ, pos, negsuc, Option, Some, None, List, [], ◌∷◌, length}
use Rattle.dk_pqmodel.specs.FileSchema.{FileNode, file_node, FileNodes}
use Rattle.dk_pqmodel.specs.Footer.{◌>=◌, Element, schema_element, group_of, FileFields, Footer, each_of, natural, are_new, most_file_levels}
use Rattle.dk_pqmeta.specs.View.{nodes_of_list}

-- 0 required, 1 optional, 2 repeated
abbrev pub repetition_at : ℤ → Option ℕ
repetition_at (pos n) = if nat_le n 2 then Some n else None
repetition_at (negsuc n) = None

-- so many nodes, and the elements behind them
abbrev pub each_node : (List Element → Option (FileNode × List Element)) → ℕ → List Element → Option (List FileNode × List Element)
each_node read zero es = Some ([], es)
each_node read (suc n) es = read es >= λ x. each_node read n x.1 >= λ more. Some (x.0 ∷ more.0, more.1)

abbrev pub if_new : List FileNode × List Element → Option (FileNodes × List Element)
if_new x = if are_new [] (nodes_of_list x.0) then Some (nodes_of_list x.0, x.1) else None

-- the nodes of a group
abbrev pub group_by : (List Element → Option (FileNode × List Element)) → ℕ → List Element → Option (FileNodes × List Element)
group_by read n es = each_node read n es >= if_new

-- an element, and then its children
abbrev pub node_with : (ℕ → List Element → Option (FileNodes × List Element)) → List Element → Option (FileNode × List Element)
node_with group [] = None
node_with group (e ∷ es) = e.repetition >= repetition_at >= λ repetition. group e.children es >= λ x. Some (file_node e.name repetition e.physical x.0, x.1)

-- a node with at most so many levels
abbrev pub node_at : ℕ → List Element → Option (FileNode × List Element)
node_at zero es = None
node_at (suc levels) es = node_with (group_by (node_at levels)) es

abbrev pub if_all : FileNodes × List Element → Option FileNodes
if_all x = if length x.1 == 0 then Some x.0 else None

-- the fields at the top: the children of the root, and no element behind them
abbrev pub tree_of : List Element → Option FileNodes
tree_of [] = None
tree_of (root ∷ es) = group_by (node_at most_file_levels) root.children es >= if_all

-- the whole
abbrev pub footer_from : FileFields → Option Footer
footer_from file =
    file.rows >= natural >= λ rows. file.schema >= λ schema. file.groups >= λ groups. each_of schema_element schema >= tree_of >= λ fields. each_of group_of groups >= λ groups.
    Some (record { rows = rows; fields = fields; groups = groups })
