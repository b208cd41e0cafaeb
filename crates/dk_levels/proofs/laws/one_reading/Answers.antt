use Rattle.dk_levels.proofs.Again.{one_reading}
use Rattle.dk_levels.proofs.laws.one_reading.Goals as goal

pub returns : goal.returns
returns c = one_reading
