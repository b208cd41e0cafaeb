use Rattle.std.proofs.Common.{◌≡◌, drop}
use Rattle.std.specs.List.{filter_map}
use Rattle.dk_features.specs.Forms.{is_each_once}
use Rattle.dk_model.specs.NameSets.{has_name}
use Rattle.dk_features.proofs.Gathered.{each_new}
use Rattle.dk_rules.specs.Walks.{key_in}
use Rattle.dk_rules.proofs.rules.are_apart.Given as goal

abbrev pub invariant-loop-action : goal.invariant-loop-action
invariant-loop-action l = each_new (has_name l.seen) (filter_map (key_in l.key) (drop l.action-index l.actions)) ≡ is_each_once (filter_map (key_in l.key) l.actions)
