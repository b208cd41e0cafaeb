use Rattle.std.proofs.Common.{refl}
use Rattle.dk_engine.proofs.Refused.{gives_same}
use Rattle.dk_segment.proofs.Choices.{chosen_plainly}
use Rattle.dk_segment.proofs.choosing.choose_commits.Goals as goal

pub returns-clause-means : goal.returns-clause-means
returns-clause-means c = gives_same (λ segment. segment) c.choose.result _ _ (chosen_plainly c.args.listing.now c.args.version _ refl refl) c.choose.ensures.means
