use Rattle.dk_actjson.proofs.Rising.{add_rises}
use Rattle.dk_actjson.proofs.written.AddFileObject.write_fields.Goals as goal

pub returns-clause-rising : goal.returns-clause-rising
returns-clause-rising c = add_rises c.args.self.now
