use Rattle.dk_actjson.proofs.Rising.{own_info_rises}
use Rattle.dk_actjson.proofs.written.OwnInfoObject.write_fields.Goals as goal

pub returns-clause-rising : goal.returns-clause-rising
returns-clause-rising c = own_info_rises c.args.self.now.txn_id.now c.args.self.now.timestamp
