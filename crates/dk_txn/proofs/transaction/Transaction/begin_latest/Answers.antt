use Rattle.std.specs.Prelude.{Err}
use Rattle.std.proofs.Common.{refl}
use Rattle.dk_txn.specs.declared.transaction.Transaction.{Transaction}
use Rattle.dk_txn.proofs.OpenStarts.{starts_told, begun_told}
use Rattle.dk_txn.proofs.transaction.Transaction.begin_latest.Goals as goal

pub returns-in-Err-clause-opens : goal.returns-in-Err-clause-opens
returns-in-Err-clause-opens g c = starts_told {X = Transaction} (λ t. t.from) _ c.args.options.limits c.args.options.now _ (Err c.in-Err.refusal) refl c.in-Err.ensures.means

pub returns-in-Ok-clause-opens : goal.returns-in-Ok-clause-opens
returns-in-Ok-clause-opens g c =
    begun_told _ c.args.options.limits c.args.options.now _ c.in-Ok.snapshot c.begin.result.from refl c.begin.ensures.from c.in-Ok.ensures.means
