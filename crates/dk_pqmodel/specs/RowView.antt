-- What cells and rows stand for.
use Rattle.std.specs.Prelude.{List, [], ◌∷◌, map, string_bytes}
use Rattle.dk_pqmodel.specs.Datum as cell
use Rattle.dk_pqmodel.specs.Datum.{Datum, Cells, no_cells, one_cell}
use Rattle.dk_pqmodel.specs.declared.row.Cell.{Cell, fold-Cell}
use Rattle.dk_pqmodel.specs.declared.row.Cell.TheOpen.{Cell-F}
use Rattle.dk_pqmodel.specs.declared.row.Row.{Row}

abbrev pub cells_of_list : List Datum → Cells
cells_of_list [] = no_cells
cells_of_list (c ∷ cs) = one_cell c (cells_of_list cs)

abbrev pub datum_step : Cell-F Datum → Datum
datum_step Cell-F.Null = cell.null
datum_step (Cell-F.Flag b) = cell.atom (cell.flag b)
datum_step (Cell-F.Int n) = cell.atom (cell.int n)
datum_step (Cell-F.Chars s) = cell.atom (cell.chars (string_bytes s))
datum_step (Cell-F.Group v) = cell.group (cells_of_list v.items)
datum_step (Cell-F.List v) = cell.list (cells_of_list v.items)

abbrev pub datum_of : Cell → Datum
datum_of = fold-Cell Datum datum_step

abbrev pub cells_of : List Cell → Cells
cells_of cs = cells_of_list (map datum_of cs)

-- a row is the group of its cells
abbrev pub row_of : Row → Datum
row_of row = cell.group (cells_of row.cells.items)

abbrev pub rows_of : List Row → Cells
rows_of rows = cells_of_list (map row_of rows)
