-- Rows as they are read back, by the places of their cells: an add has one more, its deletion vector, which is null.
use Rattle.dk_pqmodel.specs.Datum.{Datum, null, atom, group, list, Cells, no_cells, one_cell, appended}

-- an add that is there, with no vector
abbrev pub vectorless : Datum → Datum
vectorless null = null
vectorless (atom v) = atom v
vectorless (group cs) = group (appended cs (one_cell null no_cells))
vectorless (list cs) = list cs

abbrev pub first_vectorless : Cells → Cells
first_vectorless no_cells = no_cells
first_vectorless (one_cell add others) = one_cell (vectorless add) others

-- of the cells of a row the second is the add
abbrev pub cells_vectorless : Cells → Cells
cells_vectorless no_cells = no_cells
cells_vectorless (one_cell txn others) = one_cell txn (first_vectorless others)

abbrev pub row_vectorless : Datum → Datum
row_vectorless null = null
row_vectorless (atom v) = atom v
row_vectorless (group cs) = group (cells_vectorless cs)
row_vectorless (list cs) = list cs

abbrev pub rows_vectorless : Cells → Cells
rows_vectorless no_cells = no_cells
rows_vectorless (one_cell row rows) = one_cell (row_vectorless row) (rows_vectorless rows)
