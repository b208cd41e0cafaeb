use Rattle.dk_levels.proofs.Readable.{readable}
use Rattle.dk_levels.proofs.laws.schemas_are_readable.Goals as goal

pub returns : goal.returns
returns c = readable
