use Rattle.std.proofs.Common.{arith}
use Rattle.dk_levels.proofs.Turned.{turned_one, turned_all}
use Rattle.dk_levels.proofs.fronts.turn.Goals as goal

pub loop-column-preserved : goal.loop-column-preserved
loop-column-preserved c =
    turned_one c.loop-column.columns c.loop-column.column-index c.column-item.result c.reverse.new.self _ (omega arith) c.reverse.ensures.items c.loop-column.invariant

pub returns : goal.returns
returns c = turned_all c.loop-column.columns c.loop-column.column-index _ (omega arith) c.loop-column.invariant
