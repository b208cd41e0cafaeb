use Rattle.std.proofs.Common.{◌<◌, map, arith}
use Rattle.std.proofs.lemmas.List.{map-append}
use Rattle.std.specs.Vec.Iter.{into_iter_items}
use Rattle.dk_pqmeta.specs.Trees.{node_at}
use Rattle.dk_pqmeta.specs.View.{element_view, node_of}
use Rattle.dk_pqmeta.proofs.Behind.{nodes_go_on}
use Rattle.dk_pqmeta.proofs.tree.+tree.Goals as goal

pub read_nodes-loop-preserved : goal.read_nodes-loop-preserved
read_nodes-loop-preserved t c =
    let h : c.loop.counter < c.args.count = omega arith in
    let items = c.in_ok-push.ensures.items in
    rw (items, map-append) (nodes_go_on (node_at c.args.levels) c.args.count c.loop.counter (map node_of c.loop.nodes.items) (map element_view (into_iter_items c.loop.elements))
    (map element_view (into_iter_items c.read_node.new.elements)) (node_of c.in_ok-read_node.field-0) _ h c.in_ok-read_node.ensures c.loop.invariant)
