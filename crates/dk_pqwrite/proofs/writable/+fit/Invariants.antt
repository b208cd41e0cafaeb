use Rattle.std.proofs.Common.{drop}
use Rattle.std.specs.Prelude.{◌↔◌}
use Rattle.dk_pqmodel.specs.Fits.{AllBy, EachBy, fits_leaf}
use Rattle.dk_pqmodel.specs.NodeView.{field_of, fields_of}
use Rattle.dk_pqmodel.specs.RowView.{cells_of}
use Rattle.dk_pqmodel.specs.Shape.{entry}
use Rattle.dk_pqwrite.proofs.writable.+fit.Given as goal

abbrev pub invariant-fit_each-loop-i : goal.invariant-fit_each-loop-i
invariant-fit_each-loop-i l =
    EachBy fits_leaf (cells_of (drop l.i l.cells)) (fields_of (drop l.i l.nodes)) ↔ EachBy fits_leaf (cells_of l.cells) (fields_of l.nodes)

abbrev pub invariant-fit_all-loop-cell : goal.invariant-fit_all-loop-cell
invariant-fit_all-loop-cell l =
    AllBy fits_leaf (cells_of (drop l.cell-index l.cells)) (field_of l.node) ↔ AllBy fits_leaf (cells_of l.cells) (field_of l.node)

abbrev pub invariant-fit_entries-loop-cell : goal.invariant-fit_entries-loop-cell
invariant-fit_entries-loop-cell l =
    AllBy fits_leaf (cells_of (drop l.cell-index l.cells)) (entry (field_of l.value)) ↔ AllBy fits_leaf (cells_of l.cells) (entry (field_of l.value))
