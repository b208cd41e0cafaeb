use Rattle.dk_compact.proofs.Sums.{summaries_sum}
use Rattle.dk_compact.proofs.laws.summaries_sum.Goals as goal

pub returns : goal.returns
returns c = summaries_sum
