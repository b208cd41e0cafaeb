use Rattle.std.proofs.lemmas.Int.{to_z-of_z}
use mir.Syntax.{w64}
use Rattle.std.proofs.Common.{rules, refl}
use Rattle.dk_model.specs.State.{empty_state}
use Rattle.dk_txn.specs.Attempt.{start_of}
use Rattle.std.specs.Prelude.{Some, None, Ok, Err}
use Rattle.dk_snapshot.proofs.Opens.{opened_listed}
use Rattle.dk_txn.proofs.Refusals.{open_begins}
use Rattle.dk_txn.proofs.Starts.{start_none, start_last, start_refused, start_opened}
use Rattle.dk_txn.proofs.start.open_latest_listed.Goals as goal

pub returns-in_default-clause-means : goal.returns-in_default-clause-means
returns-in_default-clause-means g c = start_none c.args.options.limits c.args.options.now c.args.listing.now c.latest.result c.latest.ensures.value _ empty_state (search rules) refl

pub returns-then-latest-eq-MAX_VERSION-clause-means : goal.returns-then-latest-eq-MAX_VERSION-clause-means
returns-then-latest-eq-MAX_VERSION-clause-means g c = start_last c.args.options.limits c.args.options.now c.args.listing.now c.latest.result c.latest.ensures.value _ c.in-Some.latest c.in-Some.is (search rules)

pub returns-in-Err-clause-means : goal.returns-in-Err-clause-means
returns-in-Err-clause-means g c = start_refused c.args.options.limits c.args.options.now c.args.listing.now c.latest.result c.latest.ensures.value _ c.usual_choice-choice.result _ c.in-Some.latest c.in-Err.refusal c.usual_choice-choice.ensures
    (to_z-of_z w64 c.args.options.now (search rules)) c.in-Some.is (search rules) (opened_listed c.args.options.limits None c.usual_choice-choice.result _ _ c.args.listing.now (Err c.in-Err.refusal) c.in-Err.ensures.means)

pub returns-in-Ok-clause-means : goal.returns-in-Ok-clause-means
returns-in-Ok-clause-means g c = start_opened c.args.options.limits c.args.options.now c.args.listing.now c.latest.result c.latest.ensures.value _ c.usual_choice-choice.result _ c.in-Some.latest c.in-Ok.snapshot (start_of (Some c.in-Ok.snapshot)) c.usual_choice-choice.ensures
    (to_z-of_z w64 c.args.options.now (search rules)) c.in-Some.is (search rules) refl refl (opened_listed c.args.options.limits None c.usual_choice-choice.result _ _ c.args.listing.now (Ok c.in-Ok.snapshot) c.in-Ok.ensures.means)

pub returns-in-Err-clause-effects : goal.returns-in-Err-clause-effects
returns-in-Err-clause-effects g c = record { reads = search rules; refusals = open_begins c.in-Err.refusal c.in-Err.ensures.refusals }
