use Rattle.dk_levels.proofs.Groups.{triples-appended}
use Rattle.dk_levels.proofs.laws.triples_of_appended.Goals as goal

pub returns : goal.returns
returns c = triples-appended
