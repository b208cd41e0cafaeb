use Rattle.std.proofs.Common.{refl, rules}
use Rattle.dk_txn.specs.declared.prepared.Prepared.{Prepared}
use Rattle.dk_txn.specs.Transactions.{prepared_as}
use Rattle.dk_txn.proofs.Refusals.{survey_checks}
use Rattle.dk_txn.proofs.Preparing.{survey_refused, survey_found}
use Rattle.dk_txn.proofs.prepared.prepare.Goals as goal

pub returns-in-Err-clause-means : goal.returns-in-Err-clause-means
returns-in-Err-clause-means g c = survey_refused _ c.args.options.limits c.args.transaction.now c.args.options.now c.in-Err.refusal c.in-Err.ensures.found

pub returns-in-Ok-clause-means : goal.returns-in-Ok-clause-means
returns-in-Ok-clause-means g c =
    survey_found {X = Prepared} prepared_as _ _ c.args.options.limits c.args.transaction.now c.args.options.now _ c.in-Ok.listing c.prepare_listed.result refl
    c.in-Ok.ensures.reads.same c.in-Ok.ensures.found c.prepare_listed.ensures.means

pub returns-in-Err-clause-effects : goal.returns-in-Err-clause-effects
returns-in-Err-clause-effects g c = record { reads = search rules; refusals = survey_checks c.in-Err.refusal c.in-Err.ensures.refusals }
