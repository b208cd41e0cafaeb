use Rattle.std.proofs.Common.{◌≡◌, drop}
use Rattle.dk_pqmodel.specs.NodeView.{shape_of}
use Rattle.dk_pqmodel.specs.Object.{items_of}
use Rattle.dk_pqmodel.specs.RowView.{cells_of}
use Rattle.dk_pqmodel.specs.Shape.{element_at}
use Rattle.dk_model.specs.Fields.{texts_of}
use Rattle.dk_rowmap.proofs.RowSteps.{before}
use Rattle.dk_rowmap.proofs.part.read_names.Given as goal

-- the texts so far, and those of what is left
abbrev pub invariant-cells : goal.invariant-cells
invariant-cells l = texts_of (items_of (cells_of l.cells) (element_at (shape_of l.kind))) ≡ before l.list.items (texts_of (items_of (cells_of (drop l.cell-index l.cells)) (element_at (shape_of l.kind))))
