use Rattle.dk_levels.proofs.Pending.{add_one}
use Rattle.dk_levels.proofs.empty.add_column.Goals as goal

pub returns : goal.returns
returns c =
    add_one c.args.columns.now.items c.push.new.self.items _ c.in_ok-column.ensures.items c.in_ok-push.ensures.items
