use Rattle.dk_actjson.proofs.Rising.{remove_rises}
use Rattle.dk_actjson.proofs.written.RemovalObject.write_fields.Goals as goal

pub returns-clause-rising : goal.returns-clause-rising
returns-clause-rising c = remove_rises (record { path = c.args.self.now.path.now; deletion_timestamp = c.args.self.now.time; data_change = c.args.self.now.change })
