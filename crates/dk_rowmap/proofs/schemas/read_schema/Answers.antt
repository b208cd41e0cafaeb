use Rattle.dk_rowmap.proofs.SoundSchemas.{read_by}
use Rattle.dk_rowmap.proofs.schemas.read_schema.Goals as goal

pub new-requires : goal.new-requires
new-requires c = read_by _ _ c.in_ok-nodes.ensures c.in_ok-adds.ensures
