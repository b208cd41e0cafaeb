use Rattle.std.proofs.Common.{◌≡◌, None, option_map, drop}
use Rattle.dk_pqmodel.specs.NodeView.{field_of}
use Rattle.dk_pqmodel.specs.RowView.{cells_of}
use Rattle.dk_rowmap.specs.Parts.{data_in}
use Rattle.dk_rowmap.proofs.RowSteps.{entries_value}
use Rattle.dk_rowmap.proofs.part.find_entry.Given as goal

-- what the entries left make of what was found is what all make of nothing
abbrev pub invariant-cells : goal.invariant-cells
invariant-cells l = entries_value l.key (field_of l.value) (cells_of (drop l.place l.cells)) (option_map data_in l.found) ≡ entries_value l.key (field_of l.value) (cells_of l.cells) None
