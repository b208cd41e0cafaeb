use Rattle.std.proofs.Common.{drop}
use Rattle.dk_pqmodel.specs.Shape.{root}
use Rattle.dk_pqmodel.specs.Triples.{columns_joined, later_triples}
use Rattle.dk_pqmodel.specs.NodeView.{fields_of}
use Rattle.dk_pqmodel.specs.RowView.{rows_of}
use Rattle.dk_levels.specs.Borrowed.{borrowed_columns}
use Rattle.dk_levels.specs.Places.{from}
use Rattle.dk_levels.proofs.Pending.{RowsPending}
use Rattle.dk_levels.proofs.shredding.put_rows.Given as goal

abbrev pub invariant-loop-row : goal.invariant-loop-row
invariant-loop-row l =
    RowsPending l.columns (fields_of l.nodes) (drop l.row-index l.rows)
    (columns_joined (borrowed_columns l.initial.columns) (from 0 (later_triples (rows_of l.rows) (root (fields_of l.nodes)) 0 0)))
