use Rattle.std.proofs.Common.{arith}
use Rattle.dk_pqread.proofs.Laying.{lay_more, all_laid}
use Rattle.dk_pqread.proofs.lay.+lay.Goals as goal

pub lay_nodes-loop-node-preserved : goal.lay_nodes-loop-node-preserved
lay_nodes-loop-node-preserved t c =
    lay_more c.args.nodes.now c.loop-node.node-index c.node-item.result _ _ _ c.loop-node.plans.items _ _ (omega arith) c.node-item.is c.loop-node.invariant
    c.in_ok-lay_named.field-0 c.push.new.self.items c.in_ok-lay_named.ensures.0 c.in_ok-lay_named.ensures.1 c.in_ok-push.ensures.items

pub lay_nodes-returns : goal.lay_nodes-returns
lay_nodes-returns t c = all_laid c.args.nodes.now c.loop-node.node-index _ _ _ c.loop-node.plans.items _ _ (omega arith) c.loop-node.invariant
