use Rattle.std.proofs.Common.{arith, rules, subst, ◌+◌, drop}
use Rattle.dk_model.proofs.NameSets.{Gathers, at_item, one_more}
use Rattle.dk_model.proofs.name_sets.name_set.Goals as goal

pub list-preserved : goal.list-preserved
list-preserved c =
    one_more c.list.names c.insert.new.self c.as_str.result (drop (c.list.name-index + 1) c.args.list.now) c.args.list.now c.in_ok-insert.ensures.updates
    (subst (λ left. Gathers c.list.names left c.args.list.now) (at_item c.args.list.now c.list.name-index c.as_str.result.now (omega arith) (search rules)) c.list.invariant)
