use Rattle.std.proofs.Common.{◌≡◌, drop}
use Rattle.dk_pqmodel.specs.RowView.{cells_of}
use Rattle.dk_lawful.specs.CheckpointRows.{all_null}
use Rattle.dk_rowmap.proofs.part.all_null.Given as goal

abbrev pub invariant-cells : goal.invariant-cells
invariant-cells l = all_null (cells_of l.cells) ≡ all_null (cells_of (drop l.cell-index l.cells))
