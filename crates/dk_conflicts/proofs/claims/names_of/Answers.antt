use Rattle.std.proofs.Common.{arith, rules, sym, subst, ◌+◌, drop}
use Rattle.dk_conflicts.specs.Conflicts.{names_in}
use Rattle.dk_model.proofs.NameSets.{Gathers, one_more}
use Rattle.dk_conflicts.proofs.NamesLeft.{names_some, names_none}
use Rattle.dk_conflicts.proofs.claims.names_of.Goals as goal
use Rattle.dk_conflicts.proofs.claims.names_of.Goals.{in-Some+in_ok-insert, in_default}

pub actions-preserved : goal.actions-preserved
actions-preserved c = elim c.match-name_of.branch [
  | in-Some+in_ok-insert w ↦
      subst (λ set. Gathers set (names_in c.args.topic (drop (c.actions.action-index + 1) c.args.actions.now)) (names_in c.args.topic c.args.actions.now)) (sym w.names-is)
      (one_more c.actions.names w.insert.new.self w.as_str.result (names_in c.args.topic (drop (c.actions.action-index + 1) c.args.actions.now)) (names_in c.args.topic c.args.actions.now) w.in_ok-insert.ensures.updates
      (subst (λ left. Gathers c.actions.names left (names_in c.args.topic c.args.actions.now))
      (names_some c.args.topic c.args.actions.now c.actions.action-index c.action-item.result _ (omega arith) (search rules) (search rules)) c.actions.invariant))
  | in_default w ↦
      subst (λ set. Gathers set (names_in c.args.topic (drop (c.actions.action-index + 1) c.args.actions.now)) (names_in c.args.topic c.args.actions.now)) (sym w.names-is)
      (subst (λ left. Gathers c.actions.names left (names_in c.args.topic c.args.actions.now))
      (names_none c.args.topic c.args.actions.now c.actions.action-index c.action-item.result (omega arith) (search rules) (search rules)) c.actions.invariant)
]
