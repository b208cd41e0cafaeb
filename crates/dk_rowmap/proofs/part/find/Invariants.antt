use Rattle.std.proofs.Common.{◌≡◌, drop}
use Rattle.dk_pqmodel.specs.NodeView.{fields_of}
use Rattle.dk_pqmodel.specs.RowView.{cells_of}
use Rattle.dk_model.specs.Fields.{field}
use Rattle.dk_rowmap.specs.Parts.{group_data}
use Rattle.dk_rowmap.proofs.part.find.Given as goal

-- what is left has the field
abbrev pub invariant-cells : goal.invariant-cells
invariant-cells l = field l.key (group_data l.depth (fields_of l.nodes) (cells_of l.cells)) ≡ field l.key (group_data l.depth (fields_of (drop l.i l.nodes)) (cells_of (drop l.i l.cells)))
