use Rattle.dk_listing.specs.Sizes.{listed_size}
use Rattle.dk_snapshot.specs.Sizes.{known_size}
use Rattle.dk_snapshot.proofs.FromListing.{known_listed}
use Rattle.dk_snapshot.proofs.sizes.step_sizes.Goals as goal

pub returns : goal.returns
returns c = known_listed (known_size c.in_ok-sizes.sizes) (listed_size c.args.listing.now) c.args.steps.now c.known_sizes.result c.in_ok-sizes.ensures c.known_sizes.ensures
