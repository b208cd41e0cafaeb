use Rattle.std.proofs.Common.{rules, ◌≡◌, length}
use Rattle.dk_pqwrite.proofs.NodeElements.{group_said}
use Rattle.dk_pqwrite.proofs.nodes.children_of.Goals as goal

pub returns-then-count-clause-said : goal.returns-then-count-clause-said
returns-then-count-clause-said c =
    let count : c.len-count.result ≡ length c.in-Group.nodes.items = search rules in
    group_said c.args.kind.now c.in-Group.nodes c.len-count.result c.in-Group.is count
