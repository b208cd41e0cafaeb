use Rattle.std.proofs.Common.{ap}
use Rattle.dk_pqmodel.specs.Datum as datum
use Rattle.dk_pqmodel.specs.RowView.{cells_of}
use Rattle.dk_pqread.proofs.Shares.{empty_more}
use Rattle.dk_pqread.proofs.rows.empty_rows.Goals as goal

pub loop-preserved : goal.loop-preserved
loop-preserved c =
    empty_more c.loop.rows.items c.push.new.self.items _ c.loop.counter c.loop.invariant (ap (λ cs. datum.group (cells_of cs)) c.new.ensures.items) c.in_ok-push.ensures.items
