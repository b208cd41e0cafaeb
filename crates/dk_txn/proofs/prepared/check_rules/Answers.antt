use Rattle.dk_txn.proofs.Preparing.{rules_refuse, rules_pass}
use Rattle.dk_txn.proofs.prepared.check_rules.Goals as goal

pub returns-in-Err-clause-means : goal.returns-in-Err-clause-means
returns-in-Err-clause-means c =
    rules_refuse c.args.transaction.now c.args.from.now c.args.conflict c.deref.result.now c.in-Err.refusal c.deref.ensures.value (c.in-Err.ensures.means c.args.transaction.now.id)

pub returns-in-Ok-clause-means : goal.returns-in-Ok-clause-means
returns-in-Ok-clause-means c =
    rules_pass c.args.transaction.now c.args.from.now c.args.conflict c.deref.result.now c.in-Ok.field-0 c.check_conflict.result c.deref.ensures.value
    (c.in-Ok.ensures.means c.args.transaction.now.id) c.check_conflict.ensures.means
