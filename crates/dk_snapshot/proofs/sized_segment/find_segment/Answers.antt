use Rattle.dk_snapshot.proofs.FromListing.{not_asked, asked_segment}
use Rattle.dk_snapshot.proofs.Refusals.{any_asked}
use Rattle.dk_snapshot.proofs.sized_segment.find_segment.Goals as goal

pub returns-in-Err-clause-found : goal.returns-in-Err-clause-found
returns-in-Err-clause-found c = not_asked c.args.listing.now c.args.at c.latest.result c.args.choice.now c.in-Err.refusal c.latest.ensures.value c.in-Err.ensures.means

pub returns-in-Ok-clause-found : goal.returns-in-Ok-clause-found
returns-in-Ok-clause-found c =
    asked_segment c.args.listing.now c.args.at c.latest.result c.args.choice.now c.in-Ok.version c.size_segment.result c.latest.ensures.value c.in-Ok.ensures.means c.size_segment.ensures.found

pub returns-in-Ok-clause-refusals : goal.returns-in-Ok-clause-refusals
returns-in-Ok-clause-refusals c = any_asked c.args.at c.size_segment.result c.size_segment.ensures.refusals
