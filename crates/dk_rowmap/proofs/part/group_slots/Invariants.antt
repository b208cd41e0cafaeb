use Rattle.std.proofs.Common.{◌≡◌, ◌≤◌, length, drop}
use Rattle.std.specs.FinMap.{entries}
use Rattle.dk_pqmodel.specs.NodeView.{fields_of}
use Rattle.dk_pqmodel.specs.RowView.{cells_of}
use Rattle.dk_pqmodel.specs.Object.{members_of}
use Rattle.dk_lawful.specs.CheckpointRows.{each_by}
use Rattle.dk_rowmap.specs.Parts.{turned, slots_in}
use Rattle.dk_rowmap.proofs.part.group_slots.Given as goal

-- the slots of the fields from here on
abbrev pub invariant-cells : goal.invariant-cells
invariant-cells l = record {
  cells : l.place ≤ length l.cells;
  nodes : l.place ≤ length l.nodes;
  meant : entries l.slots ≡ slots_in (members_of (each_by (turned l.depth) (fields_of (drop l.place l.nodes)) (cells_of (drop l.place l.cells))) (fields_of (drop l.place l.nodes)));
}

abbrev pub decreases-cells : goal.decreases-cells
decreases-cells l = l.place
