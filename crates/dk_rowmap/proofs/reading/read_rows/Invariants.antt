use Rattle.std.proofs.Common.{◌≡◌, drop}
use Rattle.dk_model.specs.CommitText.{with_front}
use Rattle.dk_pqmodel.specs.RowView.{rows_of}
use Rattle.dk_rowmap.specs.RowsReading.{rows_reading}
use Rattle.dk_rowmap.proofs.reading.read_rows.Given as goal

-- the actions so far, and those of the rows left
abbrev pub invariant-rows : goal.invariant-rows
invariant-rows l = rows_reading 0 (rows_of l.rows) ≡ with_front l.actions.items (rows_reading l.place (rows_of (drop l.place l.rows)))
