use Rattle.std.proofs.Common.{rules, ◌∙◌}
use Rattle.std.specs.Option.{option_copied}
use Rattle.dk_rules.proofs.RuleWalks.{begins_first, begins_later}
use Rattle.dk_rules.proofs.rules.begins_unenabled.Goals as goal

pub returns-then-version-eq0 : goal.returns-then-version-eq0
returns-then-version-eq0 c = c.is_enabled_from_start.ensures ∙ begins_first c.args.version (option_copied c.args.metadata) (search rules)

pub returns-else-version-eq0 : goal.returns-else-version-eq0
returns-else-version-eq0 c = begins_later c.args.version (option_copied c.args.metadata) (search rules)
