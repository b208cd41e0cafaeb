use Rattle.std.proofs.Common.{rules}
use Rattle.dk_txn.specs.Transactions.{by_file_writing}
use Rattle.dk_txn.proofs.Preparing.{reads_at, written_at}
use Rattle.dk_txn.proofs.prepared.writing_at.Goals as goal

pub returns-in-Ok-within-clause-reads_back : goal.returns-in-Ok-within-clause-reads_back
returns-in-Ok-within-clause-reads_back g c =
    reads_at c.args.transaction.now c.args.options.limits c.args.options.now c.args.from.now c.args.conflict c.in-Ok.field-0 c.in-Ok.ensures.means c.in_ok-text-in-Ok.text.items
    c.deref.result.now c.in-Ok-within.writing.text.items c.deref.ensures.value c.in-Ok-within.ensures.text c.in_ok-text-in-Ok.ensures.reads_back

pub returns-in-Ok-within-clause-means : goal.returns-in-Ok-within-clause-means
returns-in-Ok-within-clause-means g c =
    written_at c.args.transaction.now c.args.options.limits c.args.options.now c.args.from.now c.args.conflict c.in-Ok.field-0 c.in-Ok.ensures.means c.in_ok-text-in-Ok.text.items
    (by_file_writing c.in-Ok-within.writing) (search rules) c.in-Ok-within.ensures.means
