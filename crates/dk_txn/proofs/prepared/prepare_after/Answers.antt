use Rattle.std.proofs.Common.{refl}
use Rattle.dk_txn.specs.declared.prepared.Prepared.{Prepared}
use Rattle.dk_txn.specs.Transactions.{prepared_as}
use Rattle.dk_txn.proofs.Preparing.{after_others}
use Rattle.dk_txn.proofs.prepared.prepare_after.Goals as goal

pub returns-in-Ok-After-clause-means : goal.returns-in-Ok-After-clause-means
returns-in-Ok-After-clause-means g c =
    after_others {X = Prepared} prepared_as _ c.args.options.limits c.args.transaction.now c.args.options.now _ c.args.winners.now.next c.args.winners.now.first c.in-Ok-After.state c.args.winners.now.steps.items c.args.winners.now.sizes.items
    c.in-Ok-After.field-0 c.in-Ok-After.conflict c.writing_at.result refl c.in-Ok-After.field-0-is c.in-Ok-After.ensures.means c.writing_at.ensures.means
