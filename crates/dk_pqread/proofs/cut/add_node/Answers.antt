use Rattle.dk_pqmodel.specs.NodeView.{fields_of}
use Rattle.dk_pqread.proofs.Cutting.{one_added, none_added}
use Rattle.dk_pqread.proofs.cut.add_node.Goals as goal

pub returns-in_ok-push-in-Some : goal.returns-in_ok-push-in-Some
returns-in_ok-push-in-Some c = rw c.in-Some.is (one_added c.args.nodes.now.items c.push.new.self.items c.in-Some.node c.in_ok-push-in-Some.ensures.items)

pub returns-in-None : goal.returns-in-None
returns-in-None c = rw c.in-None.is (none_added (fields_of c.args.nodes.now.items))
