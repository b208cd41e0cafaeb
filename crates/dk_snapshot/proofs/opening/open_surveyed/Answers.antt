use Rattle.std.proofs.Common.{refl}
use Rattle.dk_snapshot.specs.declared.table.Snapshot.{Snapshot}
use Rattle.dk_snapshot.proofs.Segments.{listed_refused, listed_opened}
use Rattle.dk_snapshot.proofs.Refusals.{any_asked}
use Rattle.dk_snapshot.proofs.opening.open_surveyed.Goals as goal

pub returns-in-Err-clause-means : goal.returns-in-Err-clause-means
returns-in-Err-clause-means g c = listed_refused _ c.args.listing c.args.options.limits c.args.at c.args.options.choice c.args.options.now c.in-Err.refusal c.in-Err.ensures.found

pub returns-in-Ok-clause-means : goal.returns-in-Ok-clause-means
returns-in-Ok-clause-means g c =
    listed_opened {X = Snapshot} (λ snapshot. snapshot) _ c.args.listing c.args.options.limits c.args.at c.args.options.choice c.args.options.now _ c.in-Ok.sized_segment c.read_sized.result
    refl c.in-Ok.ensures.found c.read_sized.ensures.means

pub returns-in-Ok-clause-refusals : goal.returns-in-Ok-clause-refusals
returns-in-Ok-clause-refusals g c = any_asked c.args.at c.read_sized.result c.read_sized.ensures.refusals
