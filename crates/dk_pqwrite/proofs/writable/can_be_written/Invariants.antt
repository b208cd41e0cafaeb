use Rattle.std.proofs.Common.{◌≡◌, ◌+◌, drop}
use Rattle.std.specs.Prelude.{◌↔◌}
use Rattle.dk_pqmodel.specs.Fits.{Fit}
use Rattle.dk_pqmodel.specs.RowView.{rows_of}
use Rattle.dk_pqmodel.specs.SchemaView.{fields_in}
use Rattle.dk_pqmodel.specs.Weight.{most_weight, weight}
use Rattle.dk_pqwrite.proofs.writable.can_be_written.Given as goal

abbrev pub invariant-loop-row : goal.invariant-loop-row
invariant-loop-row l =
    (Fit (fields_in l.schema) (rows_of (drop l.row-index l.rows)) ↔ Fit (fields_in l.schema) (rows_of l.rows))
    × (l.left + weight (rows_of l.rows) ≡ most_weight + weight (rows_of (drop l.row-index l.rows)))
