-- The nodes inside a list or a map of the file.
use Rattle.std.specs.Prelude.{Option, option_map, option_and_then}
use Rattle.dk_pqmodel.specs.Shape.{chars}
use Rattle.dk_pqmodel.specs.FileSchema.{FileNode, leaf_kind, only_node, repeated_node, two_nodes}

abbrev pub Pair : Type 0
Pair = FileNode × FileNode

abbrev pub EntryNodes : Type 0
EntryNodes = FileNode × FileNode × FileNode

-- a list's repeated node, and the one node in it
abbrev pub element_nodes : FileNode → Option Pair
element_nodes n = option_and_then (λ r. option_map {U = Pair} (λ e. (r, e)) (only_node r)) (repeated_node n)

-- a map's repeated node, and its key, which is a text, and value
abbrev pub entry_nodes : FileNode → Option EntryNodes
entry_nodes n = option_and_then (λ r. option_and_then (λ pair. option_map {U = EntryNodes} (λ l. (r, pair.0, pair.1)) (leaf_kind chars pair.0)) (two_nodes r)) (repeated_node n)
