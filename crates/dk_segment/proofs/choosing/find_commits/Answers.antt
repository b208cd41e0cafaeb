use Rattle.std.proofs.Common.{false}
use Rattle.dk_engine.proofs.Refused.{gives_same}
use Rattle.dk_segment.proofs.Agree.{indexed_walk}
use Rattle.dk_segment.proofs.choosing.find_commits.Goals as goal

pub returns-clause-means : goal.returns-clause-means
returns-clause-means c = gives_same (λ steps. steps.items) c.walk.result _ _ (indexed_walk c.in_ok-commits.commits c.args.listing.now c.in_ok-commits.ensures false c.args.first c.args.count) c.walk.ensures.means
