-- The text is that of the UUID's bytes.
use Rattle.dk_paths.specs.Numbers.{id_text}
use Rattle.dk_paths.proofs.spelling.IdDisplay.fmt.Goals as goal

pub returns-clause-writes : goal.returns-clause-writes
unfolding id_text
returns-clause-writes g c = rw c.from_u128-id.ensures at c.write.ensures.writes
