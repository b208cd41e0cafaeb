use Rattle.std.proofs.Common.{drop}
use Rattle.dk_pqmodel.specs.NodeView.{fields_of}
use Rattle.dk_pqmodel.specs.Projection.{projection_each, misfit_each}
use Rattle.dk_pqmeta.specs.View.{nodes_of}
use Rattle.dk_pqread.specs.PlanView.{path_of, plans_of}
use Rattle.dk_pqread.proofs.Laying.{LeftToLay}
use Rattle.dk_pqread.proofs.lay.+lay.Given as goal

abbrev pub invariant-lay_nodes-loop-node : goal.invariant-lay_nodes-loop-node
invariant-lay_nodes-loop-node l =
    LeftToLay (fields_of (drop l.node-index l.nodes)) (path_of l.path) (path_of l.written) (nodes_of l.inner) (plans_of l.plans.items)
    (misfit_each (fields_of l.nodes) (path_of l.written) (nodes_of l.inner)) (projection_each (fields_of l.nodes) (path_of l.path) (nodes_of l.inner))
