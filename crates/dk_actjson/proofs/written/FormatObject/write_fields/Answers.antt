use Rattle.dk_actjson.proofs.Rising.{format_rises}
use Rattle.dk_actjson.proofs.written.FormatObject.write_fields.Goals as goal

pub returns-clause-rising : goal.returns-clause-rising
returns-clause-rising c = format_rises c.args.self.now.metadata.now
