use Rattle.dk_levels.proofs.Readable.{readable}
use Rattle.dk_levels.proofs.assembly.assemble.Goals as goal

pub assemble_nodes-requires : goal.assemble_nodes-requires
assemble_nodes-requires c = rw c.deref.ensures.value (readable _ c.args.schema.now.is_schema)
