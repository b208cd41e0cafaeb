use Rattle.std.proofs.Common.{rules, refl}
use Rattle.dk_txn.specs.declared.prepared.Prepared.{Prepared}
use Rattle.dk_txn.specs.Transactions.{prepared_as}
use Rattle.dk_txn.proofs.Refusals.{choose_is_gone}
use Rattle.dk_txn.proofs.Preparing.{no_next, listed_next, listed_gone, none_next, winners_next, winners_gone}
use Rattle.dk_txn.proofs.prepared.prepare_listed.Goals as goal

pub returns-then-next-gt-MAX_VERSION-clause-means : goal.returns-then-next-gt-MAX_VERSION-clause-means
returns-then-next-gt-MAX_VERSION-clause-means g c =
    no_next c.args.options.limits c.args.transaction.now c.args.options.now c.args.listing.now c.latest.result c.next_after-next.result c.latest.ensures.value c.next_after-next.ensures _ (search rules)

pub returns-then-from-next-clause-means : goal.returns-then-from-next-clause-means
returns-then-from-next-clause-means g c =
    listed_next c.args.options.limits c.args.transaction.now c.args.options.now c.args.listing.now c.latest.result c.next_after-next.result c.latest.ensures.value c.next_after-next.ensures
    {X = Prepared} prepared_as _ c.args.options.now c.writing_at.result refl (search rules)
    (none_next {X = Prepared} prepared_as _ c.args.listing.now c.args.options.limits c.args.transaction.now c.args.options.now _ c.next_after-next.result c.writing_at.result refl (search rules) c.writing_at.ensures.means)

pub returns-in-Err-clause-means : goal.returns-in-Err-clause-means
returns-in-Err-clause-means g c =
    listed_gone c.args.options.limits c.args.transaction.now c.args.options.now c.args.listing.now c.latest.result c.next_after-next.result c.latest.ensures.value c.next_after-next.ensures _ c.gone.result (search rules)
    (winners_gone _ c.args.listing.now c.args.options.limits c.args.transaction.now c.args.options.now c.next_after-next.result c.in-Err.refusal c.gone.result c.gone.ensures c.in-Err.ensures.found)

pub returns-in-Ok-clause-means : goal.returns-in-Ok-clause-means
returns-in-Ok-clause-means g c =
    listed_next c.args.options.limits c.args.transaction.now c.args.options.now c.args.listing.now c.latest.result c.next_after-next.result c.latest.ensures.value c.next_after-next.ensures
    {X = Prepared} prepared_as _ c.args.options.now c.prepare_after.result refl (search rules)
    (winners_next {X = Prepared} prepared_as _ c.args.listing.now c.args.options.limits c.args.transaction.now c.args.options.now _ c.next_after-next.result c.in-Ok.winners c.prepare_after.result refl
    c.in-Ok.ensures.ends c.in-Ok.ensures.found c.prepare_after.ensures.means)

pub returns-in-Err-clause-effects : goal.returns-in-Err-clause-effects
returns-in-Err-clause-effects g c = record { reads = search rules; refusals = choose_is_gone c.in-Err.refusal c.gone.result c.gone.ensures c.in-Err.ensures.refusals }
