use Rattle.std.proofs.Common.{arith, option_map}
use Rattle.dk_rules.proofs.RuleWalks.{protocol_is}
use Rattle.dk_rules.proofs.rules.protocol_after.Goals as goal

pub returns : goal.returns
returns c = protocol_is c.args.before.now c.args.actions.now c.loop-action.action-index (option_map (λ x. x.now) c.loop-action.after) (omega arith) c.loop-action.invariant
