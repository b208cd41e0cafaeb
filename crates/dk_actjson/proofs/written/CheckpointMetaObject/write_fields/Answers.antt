use Rattle.dk_actjson.proofs.Rising.{checkpoint_meta_rises}
use Rattle.dk_actjson.proofs.written.CheckpointMetaObject.write_fields.Goals as goal

pub returns-clause-rising : goal.returns-clause-rising
returns-clause-rising c = checkpoint_meta_rises c.args.self.now
