use Rattle.std.proofs.Common.{refl, rules}
use Rattle.dk_txn.specs.Attempt.{start_of}
use Rattle.dk_txn.proofs.Refusals.{survey_begins}
use Rattle.dk_txn.proofs.Starts.{survey_refused, survey_started}
use Rattle.dk_txn.proofs.start.open_latest.Goals as goal

pub returns-in-Err-clause-means : goal.returns-in-Err-clause-means
returns-in-Err-clause-means g c = survey_refused _ c.args.options.limits c.args.options.now _ c.in-Err.ensures.found

pub returns-in-Ok-clause-means : goal.returns-in-Ok-clause-means
returns-in-Ok-clause-means g c = survey_started start_of _ _ c.args.options.limits c.args.options.now _ c.in-Ok.listing c.open_latest_listed.result refl c.in-Ok.ensures.reads.same c.in-Ok.ensures.found c.open_latest_listed.ensures.means

pub returns-in-Err-clause-effects : goal.returns-in-Err-clause-effects
returns-in-Err-clause-effects g c = record { reads = search rules; refusals = survey_begins c.in-Err.refusal c.in-Err.ensures.refusals }
