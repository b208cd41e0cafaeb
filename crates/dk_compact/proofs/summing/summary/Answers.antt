use Rattle.std.proofs.Common.{◌≡◌, List, map, ap, sym, subst, ◌∙◌}
use Rattle.dk_model.specs.declared.action.Action.{Action}
use Rattle.dk_lawful.specs.Agree.{SumsCommits}
use Rattle.dk_compact.specs.declared.newest.Newest.{Newest}
use Rattle.dk_compact.specs.Settled.{settled}
use Rattle.dk_compact.specs.Summary.{summary_of}
use Rattle.dk_compact.specs.Taken.{taken_commits, in_order_of_kinds}
use Rattle.dk_compact.proofs.TakenNewest.{commits_taken}
use Rattle.dk_compact.proofs.Sums.{summaries_sum}
use Rattle.dk_compact.proofs.summing.summary.Goals as goal

summed : (commits : List (List Action)) (newest : Newest) (actions : List Action) → newest ≡ taken_commits commits → actions ≡ map settled (in_order_of_kinds newest) → actions ≡ summary_of commits
summed commits newest actions taken are = are ∙ ap (λ n. map settled (in_order_of_kinds n)) (taken ∙ commits_taken commits)

pub returns-clause-exact : goal.returns-clause-exact
returns-clause-exact c = summed c.args.commits.now c.in_ok-newest.newest c.in_ok-actions.actions.items c.in_ok-newest.ensures c.in_ok-actions.ensures

pub returns-clause-sums : goal.returns-clause-sums
returns-clause-sums c = subst (λ actions. SumsCommits actions c.args.commits.now) (sym (summed c.args.commits.now c.in_ok-newest.newest c.in_ok-actions.actions.items c.in_ok-newest.ensures c.in_ok-actions.ensures)) (summaries_sum c.args.commits.now)
