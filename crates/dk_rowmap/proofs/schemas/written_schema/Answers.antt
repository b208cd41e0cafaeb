use Rattle.dk_rowmap.proofs.SoundSchemas.{written_by}
use Rattle.dk_rowmap.proofs.schemas.written_schema.Goals as goal

pub new-requires : goal.new-requires
new-requires c = written_by _ _ c.in_ok-nodes.ensures c.in_ok-adds.ensures
