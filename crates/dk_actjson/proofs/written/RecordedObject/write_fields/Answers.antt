use Rattle.dk_actjson.proofs.Rising.{txn_rises}
use Rattle.dk_actjson.proofs.written.RecordedObject.write_fields.Goals as goal

pub returns-clause-rising : goal.returns-clause-rising
returns-clause-rising c = txn_rises (record { app_id = c.args.self.now.app_id.now; version = c.args.self.now.application.now.version; last_updated = c.args.self.now.application.now.last_updated })
