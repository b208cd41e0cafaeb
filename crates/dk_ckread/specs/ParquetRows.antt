-- The rows of these files, as they are read for checkpoints.
use Rattle.std.specs.Prelude.{false, [], ◌∷◌, codes}
use Rattle.dk_pqmodel.specs.Datum.{flag, Datum, null, atom, Cells}
use Rattle.dk_pqmodel.specs.RowView.{cells_of_list}
use Rattle.dk_lawful.specs.RowExample.{of, text_cell, number}

abbrev protocol_row : Datum
protocol_row = of (null ∷ null ∷ null ∷ null ∷ of (number 1 ∷ number 1 ∷ null ∷ null ∷ []) ∷ null ∷ null ∷ null ∷ [])

abbrev metadata_row : Datum
metadata_row =
    of (null ∷ null ∷ null
    ∷ of (text_cell (codes "t") ∷ null ∷ null ∷ null ∷ text_cell (codes "s") ∷ null ∷ null ∷ null ∷ [])
    ∷ null ∷ null ∷ null ∷ null ∷ [])

abbrev pub head_rows : Cells
head_rows = cells_of_list (protocol_row ∷ metadata_row ∷ [])

abbrev add_row : Datum
add_row =
    of (null ∷ of (text_cell (codes "a") ∷ null ∷ number 1 ∷ number 5 ∷ atom (flag false) ∷ null ∷ null ∷ null ∷ null ∷ null ∷ null ∷ [])
    ∷ null ∷ null ∷ null ∷ null ∷ null ∷ null ∷ [])

abbrev pub add_rows : Cells
add_rows = cells_of_list (add_row ∷ [])

abbrev pub side_row : Datum
side_row = of (null ∷ null ∷ null ∷ null ∷ null ∷ null ∷ null ∷ of (text_cell (codes "s.parquet") ∷ number 1 ∷ number 2 ∷ []) ∷ [])

abbrev pub side_rows : Cells
side_rows = cells_of_list (side_row ∷ [])

abbrev pub version_row : Datum
version_row = of (null ∷ null ∷ null ∷ null ∷ null ∷ null ∷ of (number 0 ∷ []) ∷ null ∷ [])

abbrev pub top_rows : Cells
top_rows = cells_of_list (version_row ∷ protocol_row ∷ metadata_row ∷ [])
