use Rattle.std.proofs.Common.{sym, ◌∙◌}
use Rattle.dk_rules.proofs.RuleWalks.{kinds_of_own}
use Rattle.dk_rules.proofs.rules.keeps_kinds.Goals as goal

pub returns : goal.returns
returns c = λ txn_id. c.all_stand_behind_own.ensures ∙ sym (kinds_of_own txn_id c.args.actions.now)
