use Rattle.std.specs.Prelude.{None}
use Rattle.dk_snapshot.proofs.FromListing.{not_chosen, sized_is, sized_version}
use Rattle.dk_snapshot.proofs.Refusals.{choose_opens}
use Rattle.dk_snapshot.proofs.sized_segment.size_segment.Goals as goal

pub returns-in-Err-clause-found : goal.returns-in-Err-clause-found
returns-in-Err-clause-found c = not_chosen c.args.listing.now c.args.version c.args.choice.now c.in-Err.refusal c.requires c.in-Err.ensures.means

pub returns-in-Ok-clause-found : goal.returns-in-Ok-clause-found
returns-in-Ok-clause-found c =
    sized_is c.args.listing.now c.args.version c.args.choice.now c.in-Ok.segment c.as_slice.result.now c.step_sizes-sizes.result c.sized_with.result c.requires c.in-Ok.ensures.means c.as_slice.ensures
    c.step_sizes-sizes.ensures c.sized_with.ensures

pub returns-in-Ok-clause-version : goal.returns-in-Ok-clause-version
returns-in-Ok-clause-version c = sized_version c.args.version c.in-Ok.segment c.step_sizes-sizes.result c.sized_with.result c.sized_with.ensures

pub returns-in-Err-clause-refusals : goal.returns-in-Err-clause-refusals
returns-in-Err-clause-refusals c = choose_opens None c.in-Err.refusal c.in-Err.ensures.refusals
