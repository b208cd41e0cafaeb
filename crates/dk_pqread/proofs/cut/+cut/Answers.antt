use Rattle.std.proofs.Common.{arith}
use Rattle.dk_pqmodel.specs.NodeView.{fields_of}
use Rattle.dk_pqread.proofs.Cutting.{cut_more, all_cut}
use Rattle.dk_pqread.proofs.cut.+cut.Goals as goal

pub cut_all-loop-plan-preserved : goal.cut_all-loop-plan-preserved
cut_all-loop-plan-preserved t c =
    cut_more c.args.plans.now c.loop-plan.plan-index c.plan-item.result (fields_of c.loop-plan.nodes.items) (fields_of c.add_node.new.nodes.items) _ _
    (omega arith) c.plan-item.is c.in_ok-cut.ensures c.in_ok-add_node.ensures c.loop-plan.invariant

pub cut_all-returns : goal.cut_all-returns
cut_all-returns t c = all_cut c.args.plans.now c.loop-plan.plan-index (fields_of c.loop-plan.nodes.items) _ (omega arith) c.loop-plan.invariant
