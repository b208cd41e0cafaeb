use Rattle.std.proofs.Common.{arith}
use Rattle.dk_levels.proofs.Pending.{nothing_loop, nothing_ends, nothing_map}
use Rattle.dk_levels.proofs.to_columns.+put_nothing.Goals as goal

pub loop-node-preserved : goal.loop-node-preserved
loop-node-preserved t c =
    nothing_loop c.deref-node-items.result.now c.loop-node.node-index c.node-item.result c.loop-node.columns c.put_nothing.new.columns
    c.loop-node.next c.in_ok-next-in-Group.next _ _ _ (omega arith) c.node-item.is c.in_ok-next-in-Group.ensures.added c.in_ok-next-in-Group.ensures.next c.loop-node.invariant

pub returns-after-loop-node-clause-added : goal.returns-after-loop-node-clause-added
returns-after-loop-node-clause-added t c = nothing_ends c.deref-node-items.result.now c.loop-node.node-index c.loop-node.columns c.loop-node.next _ _ _ (omega arith) c.loop-node.invariant (omega arith)

pub returns-in_ok-next-in-Map-clause-added : goal.returns-in_ok-next-in-Map-clause-added
returns-in_ok-next-in-Map-clause-added t c =
    rw c.in-Map.is (nothing_map c.in-Map.node c.args.columns.now c.push.new.columns _ c.args.leaf c.in_ok-value-in-Map.value _ _
    c.in_ok-value-in-Map.ensures.added c.in_ok-value-in-Map.ensures.next (rw c.deref-in-Map.ensures at c.in_ok-next-in-Map.ensures.added))
