use Rattle.std.proofs.Common.{rules, ◌≡◌, ◌<◌, length, get_or, string_bytes, subst}
use Rattle.dk_pqmodel.specs.NodeView.{field_of}
use Rattle.dk_pqwrite.specs.Written.{written_as}
use Rattle.dk_pqwrite.specs.Elements.{WritesNode}
use Rattle.dk_pqwrite.proofs.NodeElements.{list_added, map_added, next_node}
use Rattle.dk_pqwrite.proofs.nodes.+elements.Goals as goal

pub write_inner-returns-in_ok-write_node-in-List :
    goal.write_inner-returns-in_ok-write_node-in-List
write_inner-returns-in_ok-write_node-in-List t c =
    let same : c.deref-in-List.result.now ≡ c.in-List.element.value = search rules in
    list_added c.args.kind.now c.in-List.element c.deref-in-List.result.now _ c.args.writer.now c.write_element.new.writer c.write_node.new.writer c.in-List.is same c.repeated.ensures
    c.in_ok-write_element-in-List.ensures c.in_ok-write_node-in-List.ensures

pub write_inner-returns-in_ok-write_node-in-Map : goal.write_inner-returns-in_ok-write_node-in-Map
write_inner-returns-in_ok-write_node-in-Map t c =
    let same : c.deref-in-Map.result.now ≡ c.in-Map.value.value = search rules in
    map_added c.args.kind.now c.in-Map.value c.deref-in-Map.result.now _ _ c.args.writer.now c.write_element-in-Map.new.writer c.write_element-in-Map-2.new.writer c.write_node-in-Map.new.writer c.in-Map.is same
    c.repeated-in-Map.ensures c.in_ok-write_element-in-Map.ensures c.key.ensures c.in_ok-write_element-in-Map-2.ensures c.in_ok-write_node-in-Map.ensures

pub write_nodes-loop-node-preserved : goal.write_nodes-loop-node-preserved
write_nodes-loop-node-preserved t c =
    let node = c.node-item.result in
    let name : c.deref.result.now ≡ string_bytes node.name = search rules in
    let room : c.loop-node.node-index < length c.args.nodes.now = search rules in
    let is : node ≡ get_or c.args.nodes.now c.loop-node.node-index node = search rules in
    next_node c.args.nodes.now c.loop-node.node-index node c.args.writer.now c.loop-node.writer c.write_node.new.writer room is c.loop-node.invariant
    (subst (λ text. WritesNode (written_as text (field_of node)) c.loop-node.writer c.write_node.new.writer) name c.in_ok-write_node.ensures)
