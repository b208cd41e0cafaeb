use Rattle.std.proofs.Common.{rules, ◌<◌, ◌^◌, length}
use Rattle.dk_pqwrite.proofs.WholeFooters.{root_is, root_few}
use Rattle.dk_pqwrite.proofs.footer.root.Goals as goal

pub returns-clause-said : goal.returns-clause-said
returns-clause-said c = root_is c.args.nodes.now

pub returns-clause-few : goal.returns-clause-few
returns-clause-few c =
    let small : length c.args.nodes.now < 2 ^ 31 = search rules in
    root_few c.args.nodes.now small
