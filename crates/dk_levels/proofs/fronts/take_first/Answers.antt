use Rattle.dk_levels.proofs.Cursors.{taken_end}
use Rattle.dk_levels.proofs.fronts.take_first.Goals as goal

pub returns : goal.returns
returns c = taken_end c.args.rest.now c.args.place c.index-rest-place.result c.pop.new.self c.pop.result c.requires c.pop.ensures.items c.pop.ensures.cases
