-- The rows of a list are as many as its elements.
use Rattle.std.proofs.Common.{◌≡◌, [], ◌∷◌, List, length, refl, arith}
use Rattle.dk_pqmodel.specs.FileMeans.{rows_in}
use Rattle.dk_pqmodel.specs.RowView.{rows_of}
use Rattle.dk_pqmodel.specs.declared.row.Row.{Row}

pub rows_counted : (rows : List Row) → rows_in (rows_of rows) ≡ length rows
rows_counted [] = refl
rows_counted (row ∷ rows) = omega (arith, rows_counted rows)
