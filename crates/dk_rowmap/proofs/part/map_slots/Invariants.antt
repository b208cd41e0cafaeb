use Rattle.std.proofs.Common.{◌≡◌, [], drop}
use Rattle.std.specs.FinMap.{entries}
use Rattle.dk_pqmodel.specs.RowView.{cells_of}
use Rattle.dk_rowmap.specs.Parts.{after_entries}
use Rattle.dk_rowmap.proofs.part.map_slots.Given as goal

-- what the entries left make of the slots is what all make of none
abbrev pub invariant-cells : goal.invariant-cells
invariant-cells l = after_entries (cells_of (drop l.cell-index l.cells)) (entries l.slots) ≡ after_entries (cells_of l.cells) []
