use Rattle.std.proofs.Common.{◌+◌, drop, replicate, None}
use Rattle.dk_pqmodel.specs.Datum.{single_triple}
use Rattle.dk_pqmodel.specs.Shape.{width_of, width_at}
use Rattle.dk_pqmodel.specs.Triples.{columns_joined, nothing}
use Rattle.dk_pqmodel.specs.NodeView.{fields_of, shape_of}
use Rattle.dk_levels.specs.Borrowed.{borrowed_columns}
use Rattle.dk_levels.specs.Places.{from}
use Rattle.dk_levels.proofs.Pending.{Pending}
use Rattle.dk_levels.proofs.to_columns.+put_nothing.Given as goal

abbrev pub decreases-put_nothing : goal.decreases-put_nothing
decreases-put_nothing l = goal.size-put_nothing l

abbrev pub invariant-loop-node : goal.invariant-loop-node
invariant-loop-node l =
    let w = width_of (fields_of (drop l.node-index l.node-items)) in
    Pending l.columns l.next (replicate w (single_triple l.levels.repetition l.levels.definition None)) w
    (columns_joined (borrowed_columns l.initial.columns) (from l.leaf (nothing (shape_of l.kind) l.levels.repetition l.levels.definition))) (l.leaf + width_at (shape_of l.kind))
