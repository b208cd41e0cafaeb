use Rattle.dk_actjson.proofs.Rising.{domain_rises}
use Rattle.dk_actjson.proofs.written.SettingsObject.write_fields.Goals as goal

pub returns-clause-rising : goal.returns-clause-rising
returns-clause-rising c = domain_rises (record { domain = c.args.self.now.domain.now; configuration = c.args.self.now.configuration.now; removed = c.args.self.now.removed })
