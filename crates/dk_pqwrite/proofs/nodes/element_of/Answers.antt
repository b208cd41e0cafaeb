use Rattle.std.proofs.Common.{rules, ◌≡◌, option_map, pos}
use Rattle.dk_pqmodel.specs.FileMeans.{one_if}
use Rattle.dk_pqmodel.specs.NodeView.{shape_of}
use Rattle.dk_pqwrite.specs.Written.{converted_at, physical_at}
use Rattle.dk_pqwrite.proofs.NodeElements.{own_element}
use Rattle.dk_pqwrite.proofs.nodes.element_of.Goals as goal

pub returns : goal.returns
returns c =
    let node = c.args.node.now in
    let nullable : c.from.result ≡ one_if node.nullable = search rules in
    let physical : option_map pos c.physical_type.result ≡ physical_at (shape_of node.kind) = search rules in
    let converted : c.converted_type.result ≡ converted_at (shape_of node.kind) = search rules in
    own_element c.args.name.now node c.from.result c.physical_type.result c.in_ok-children.children c.converted_type.result converted nullable physical c.in_ok-children.ensures.said c.in_ok-children.ensures.small
