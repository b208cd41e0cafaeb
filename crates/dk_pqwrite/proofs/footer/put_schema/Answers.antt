use Rattle.std.proofs.Common.{rules, ◌<◌, ◌^◌}
use Rattle.dk_pqmodel.specs.NodeView.{fields_of}
use Rattle.dk_pqwrite.proofs.WholeFooters.{schema_added}
use Rattle.dk_pqwrite.proofs.footer.put_schema.Goals as goal

pub returns : goal.returns
returns c =
    let count = c.in_ok-count.count in
    let small : count < 2 ^ 32 = search rules in
    schema_added (fields_of c.args.nodes.now) _ count c.args.writer.now c.field.new.self c.list.new.self c.write_element.new.writer c.write_nodes.new.writer c.in_ok-field.ensures.written
    c.in_ok-list.ensures.written c.in_ok-count.ensures small c.in_ok-root.ensures.said c.in_ok-root.ensures.few c.in_ok-write_element.ensures c.in_ok-write_nodes.ensures
