use Rattle.dk_levels.proofs.Readable.{readable}
use Rattle.dk_levels.proofs.shredding.shred_borrowed.Goals as goal

pub put_rows-requires-clause-deep : goal.put_rows-requires-clause-deep
put_rows-requires-clause-deep c = rw c.deref-2.ensures.value (readable _ c.args.schema.now.is_schema).deep
