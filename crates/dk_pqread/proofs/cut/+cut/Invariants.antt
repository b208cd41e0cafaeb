use Rattle.std.proofs.Common.{◌≡◌, drop}
use Rattle.dk_pqmodel.specs.Projection.{projected_fields}
use Rattle.dk_pqmodel.specs.NodeView.{fields_of}
use Rattle.dk_pqread.specs.PlanView.{plans_of}
use Rattle.dk_pqread.specs.Lays.{fields_then}
use Rattle.dk_pqread.proofs.cut.+cut.Given as goal

abbrev pub invariant-cut_all-loop-plan : goal.invariant-cut_all-loop-plan
invariant-cut_all-loop-plan l = fields_then (fields_of l.nodes.items) (projected_fields (plans_of (drop l.plan-index l.plans))) ≡ projected_fields (plans_of l.plans)
