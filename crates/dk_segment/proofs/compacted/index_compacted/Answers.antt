use Rattle.dk_segment.proofs.Reached.{are_reached}
use Rattle.dk_segment.proofs.compacted.index_compacted.Goals as goal

pub returns-in_ok-reaches-clause-reached : goal.returns-in_ok-reaches-clause-reached
returns-in_ok-reaches-clause-reached c = are_reached c.in_ok-reaches.reaches c.args.log.now c.args.asked c.requires.rising c.in_ok-reaches.ensures
