-- The actions of rows, or the first row that means nothing.
use Rattle.std.specs.Prelude.{ℕ, ◌+◌, List, [], Result, Ok}
use Rattle.dk_pqmodel.specs.Datum.{Cells, no_cells, one_cell}
use Rattle.dk_model.specs.declared.action.Action.{Action}
use Rattle.dk_model.specs.CommitText.{after_line}
use Rattle.dk_lawful.specs.CheckpointRows.{row_means}

-- the actions of rows that are numbered from here, or the number of the first that means nothing
abbrev pub rows_reading : ℕ → Cells → Result (List Action) ℕ
rows_reading number no_cells = Ok []
rows_reading number (one_cell row rows) = after_line (row_means row) number (rows_reading (number + 1) rows)
