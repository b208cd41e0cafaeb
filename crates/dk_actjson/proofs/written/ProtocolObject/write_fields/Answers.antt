use Rattle.dk_actjson.proofs.Rising.{protocol_rises}
use Rattle.dk_actjson.proofs.written.ProtocolObject.write_fields.Goals as goal

pub returns-clause-rising : goal.returns-clause-rising
returns-clause-rising c = protocol_rises c.args.self.now
