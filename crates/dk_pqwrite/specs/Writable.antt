-- Which triples are written as a column.
use Rattle.std.specs.Prelude.{◌≤◌, ◌^◌, length, All}
use Rattle.dk_pqmodel.specs.Datum.{Column}
use Rattle.dk_pqmodel.specs.FilePages.{ColumnAt, AreFull}
use Rattle.dk_pqwrite.specs.PlainValues.{FitsEntry, column_weight}

-- their levels are the column's, values stand where the greatest level is reached and fit, and they are no more and no heavier than rows
-- of the greatest weight have
pub record IsWritableColumn (column : ColumnAt) (triples : Column) : Type 0 where
  pub full : AreFull column triples
  pub fit : All (FitsEntry column.kind) triples
  pub few : length triples ≤ 2 ^ 26
  pub light : column_weight triples ≤ 2 ^ 30
