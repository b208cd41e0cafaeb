use Rattle.std.proofs.Common.{arith, ◌+◌}
use Rattle.dk_levels.specs.Fronts.{fronts}
use Rattle.dk_levels.proofs.Cursors.{nothing_step}
use Rattle.dk_levels.proofs.fronts.take_nothing.Goals as goal

pub loop-i-preserved : goal.loop-i-preserved
loop-i-preserved c =
    nothing_step (c.args.place + c.args.width) c.loop-i.i c.args.levels.repetition c.args.levels.definition (fronts c.loop-i.rest) (fronts c.take_none.new.rest) _ (omega arith) c.in_ok-take_none.ensures c.loop-i.invariant
