use Rattle.std.proofs.Common.{rules}
use Rattle.dk_rules.proofs.RuleWalks.{first_count, later_count}
use Rattle.dk_rules.proofs.rules.is_count_allowed.Goals as goal

pub returns-then-version-eq0 : goal.returns-then-version-eq0
returns-then-version-eq0 c = first_count c.args.version c.args.count (search rules)

pub returns-else-version-eq0 : goal.returns-else-version-eq0
returns-else-version-eq0 c = later_count c.args.version c.args.count (search rules)
