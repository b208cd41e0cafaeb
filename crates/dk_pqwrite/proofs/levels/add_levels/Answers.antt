use Rattle.dk_pqwrite.proofs.AddingLevels.{no_levels}
use Rattle.dk_pqwrite.proofs.levels.add_levels.Goals as goal

pub returns-then-greatest-eq0 : goal.returns-then-greatest-eq0
returns-then-greatest-eq0 c = no_levels c.args.greatest c.args.levels.now c.args.body.now.items c.if-greatest-eq0.true c.requires.within
