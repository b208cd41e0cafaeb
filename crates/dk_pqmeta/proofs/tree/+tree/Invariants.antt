-- A group's nodes have one level less than the group's own node; within a level the calls go from the group to its nodes.
use Rattle.std.proofs.Common.{◌≡◌, ◌+◌, ◌-◌, ◌*◌, map}
use Rattle.std.specs.Vec.Iter.{into_iter_items}
use Rattle.dk_pqmeta.specs.Trees.{each_node, node_at}
use Rattle.dk_pqmeta.specs.View.{element_view, node_of, nodes_behind}
use Rattle.dk_pqmeta.proofs.tree.+tree.Given as goal

abbrev pub decreases-read_node : goal.decreases-read_node
decreases-read_node l = 2 * l.levels

abbrev pub decreases-read_nodes : goal.decreases-read_nodes
decreases-read_nodes l = 2 * l.levels + 1

abbrev pub invariant-read_nodes-loop : goal.invariant-read_nodes-loop
invariant-read_nodes-loop l =
    nodes_behind (map node_of l.nodes.items) (each_node (node_at l.levels) (l.count - l.counter) (map element_view (into_iter_items l.elements)))
    ≡ each_node (node_at l.levels) l.count (map element_view (into_iter_items l.fn.elements))
