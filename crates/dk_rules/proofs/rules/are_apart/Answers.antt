use Rattle.std.proofs.Common.{arith, rules, ap, ◌∙◌, ◌+◌, drop}
use Rattle.std.specs.List.{filter_map}
use Rattle.dk_model.specs.NameSets.{has_name}
use Rattle.dk_features.proofs.Gathered.{each_new, none_seen}
use Rattle.dk_rules.specs.Walks.{key_in}
use Rattle.dk_rules.proofs.RuleWalks.{key_more, key_none}
use Rattle.dk_rules.proofs.rules.are_apart.Goals as goal
use Rattle.dk_rules.proofs.rules.are_apart.Goals.{in-Some+in_ok-insert+else-not-branch, in_default}

pub loop-action-init : goal.loop-action-init
loop-action-init c = none_seen c.new-seen.result _ c.new-seen.ensures.empty

pub loop-action-preserved : goal.loop-action-preserved
loop-action-preserved c = elim c.match-key_of.branch [
  | in-Some+in_ok-insert+else-not-branch w ↦
      ap (λ names. each_new (has_name names) (filter_map (key_in c.args.key) (drop (c.loop-action.action-index + 1) c.args.actions.now))) w.seen-is
      ∙ key_more (key_in c.args.key) c.loop-action.seen w.insert.new.self w.as_str.result c.args.actions.now c.loop-action.action-index c.action-item.result _ (omega arith) (search rules) (search rules) (search rules) w.in_ok-insert.ensures.updates c.loop-action.invariant
  | in_default w ↦
      ap (λ names. each_new (has_name names) (filter_map (key_in c.args.key) (drop (c.loop-action.action-index + 1) c.args.actions.now))) w.seen-is
      ∙ key_none (key_in c.args.key) c.loop-action.seen c.args.actions.now c.loop-action.action-index c.action-item.result _ (omega arith) (search rules) (search rules) c.loop-action.invariant
]
