use Rattle.std.proofs.Common.{arith}
use Rattle.dk_pqmodel.specs.NodeView.{fields_of}
use Rattle.dk_levels.proofs.Put.{rows_loop, rows_end}
use Rattle.dk_levels.proofs.shredding.put_rows.Goals as goal

pub loop-row-preserved : goal.loop-row-preserved
loop-row-preserved c =
    rows_loop (fields_of c.args.nodes.now) c.args.rows.now c.loop-row.row-index c.row-item.result c.loop-row.columns c.put_group.new.columns _
    (omega arith) c.row-item.is (rw c.deref.ensures.value at c.in_ok-put_group.ensures.added) c.loop-row.invariant

pub returns : goal.returns
returns c = rows_end (fields_of c.args.nodes.now) c.args.rows.now c.loop-row.row-index c.loop-row.columns _ (omega arith) c.loop-row.invariant
