use Rattle.std.proofs.Common.{arith, rules}
use Rattle.dk_features.proofs.Gathered.{none_seen, name_more}
use Rattle.dk_features.proofs.forms.is_each_once.Goals as goal

pub list-init : goal.list-init
list-init c = none_seen c.new-seen.result _ c.new-seen.ensures.empty

pub list-preserved : goal.list-preserved
list-preserved c = name_more c.list.seen c.insert.new.self c.as_str.result c.args.list.now c.list.name-index _ (omega arith) (search rules) (search rules) c.in_ok-insert.ensures.updates c.list.invariant
