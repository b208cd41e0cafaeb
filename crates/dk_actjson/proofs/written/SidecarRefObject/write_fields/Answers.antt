use Rattle.dk_actjson.proofs.Rising.{sidecar_rises}
use Rattle.dk_actjson.proofs.written.SidecarRefObject.write_fields.Goals as goal

pub returns-clause-rising : goal.returns-clause-rising
returns-clause-rising c = sidecar_rises c.args.self.now
