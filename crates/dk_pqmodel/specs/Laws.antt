-- Laws of rows and schemas.
use Rattle.dk_pqmodel.specs.Shape.{Fields}
use Rattle.dk_pqmodel.specs.Datum.{Cells}
use Rattle.dk_pqmodel.specs.Fits.{Fit, AreRowsOf}

-- Rows that fit a schema have its form.
abbrev pub FittingRowsMatch : Type 0
FittingRowsMatch = (fs : Fields) (rows : Cells) → Fit fs rows → AreRowsOf fs rows
