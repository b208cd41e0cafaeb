use Rattle.dk_actjson.proofs.Rising.{metadata_rises}
use Rattle.dk_actjson.proofs.written.MetadataObject.write_fields.Goals as goal

pub returns-clause-rising : goal.returns-clause-rising
returns-clause-rising c = metadata_rises c.args.self.now
