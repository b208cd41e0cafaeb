use Rattle.std.proofs.Common.{arith}
use Rattle.dk_pqmodel.specs.SchemaView.{fields_in}
use Rattle.dk_levels.proofs.Readable.{readable}
use Rattle.dk_pqwrite.proofs.leaves.leaves_of.Goals as goal

pub add_nodes-requires : goal.add_nodes-requires
add_nodes-requires c =
    let read = readable (fields_in c.args.schema.now) c.args.schema.now.is_schema in
    record { deep = rw c.deref.ensures.value (omega (arith, read.deep)); lists = omega arith }
