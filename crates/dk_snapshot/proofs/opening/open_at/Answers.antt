use Rattle.std.proofs.Common.{refl}
use Rattle.std.specs.Prelude.{Err}
use Rattle.dk_snapshot.specs.declared.table.Snapshot.{Snapshot}
use Rattle.dk_snapshot.proofs.Opens.{opens_told}
use Rattle.dk_snapshot.proofs.Segments.{survey_refused, survey_opened}
use Rattle.dk_snapshot.proofs.Refusals.{survey_opens}
use Rattle.dk_snapshot.proofs.opening.open_at.Goals as goal

pub returns-in-Err-clause-means : goal.returns-in-Err-clause-means
returns-in-Err-clause-means g c =
    opens_told c.args.options.limits c.args.at c.args.options.choice c.args.options.now _ (Err c.in-Err.refusal) (survey_refused _ c.args.options.limits c.args.at c.args.options.choice c.args.options.now _ c.in-Err.ensures.found)

pub returns-in-Ok-clause-means : goal.returns-in-Ok-clause-means
returns-in-Ok-clause-means g c =
    opens_told c.args.options.limits c.args.at c.args.options.choice c.args.options.now _ c.open_surveyed.result
    (survey_opened {X = Snapshot} (λ snapshot. snapshot) _ _ c.in-Ok.listing c.args.options.limits c.args.at c.args.options.choice c.args.options.now _ c.open_surveyed.result refl
    c.in-Ok.ensures.reads.same c.in-Ok.ensures.found c.open_surveyed.ensures.means)

pub returns-in-Err-clause-refusals : goal.returns-in-Err-clause-refusals
returns-in-Err-clause-refusals g c = survey_opens c.args.at c.in-Err.refusal c.in-Err.ensures.refusals
