use Rattle.std.proofs.Common.{◌≡◌, drop}
use Rattle.dk_pqmodel.specs.Projection.{all_missing}
use Rattle.dk_pqread.specs.PlanView.{plans_of}
use Rattle.dk_pqread.proofs.plan.all_missing.Given as goal

abbrev pub invariant-loop-plan : goal.invariant-loop-plan
invariant-loop-plan l = all_missing (plans_of (drop l.plan-index l.plans)) ≡ all_missing (plans_of l.plans)
