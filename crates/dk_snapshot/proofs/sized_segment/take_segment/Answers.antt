use Rattle.dk_snapshot.proofs.sized_segment.take_segment.Goals as goal

pub returns-clause-found : goal.returns-clause-found
returns-clause-found c = c.find_segment.ensures.found
