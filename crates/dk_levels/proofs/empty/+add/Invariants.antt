use Rattle.std.proofs.Common.{◌≡◌, ◌++◌, drop}
use Rattle.dk_pqmodel.specs.Shape.{width_of}
use Rattle.dk_pqmodel.specs.Triples.{empty_columns}
use Rattle.dk_pqmodel.specs.NodeView.{fields_of}
use Rattle.dk_levels.specs.Borrowed.{borrowed_columns}
use Rattle.dk_levels.proofs.empty.+add.Given as goal

abbrev pub invariant-add_columns-loop-node : goal.invariant-add_columns-loop-node
invariant-add_columns-loop-node l =
    borrowed_columns l.columns.items ++ empty_columns (width_of (fields_of (drop l.node-index l.nodes)))
    ≡ borrowed_columns l.initial.columns.items ++ empty_columns (width_of (fields_of l.nodes))
