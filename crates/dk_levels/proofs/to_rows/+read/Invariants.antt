use Rattle.std.proofs.Common.{◌≡◌, ◌+◌, ◌-◌, drop}
use Rattle.dk_pqmodel.specs.Shape.{width_of}
use Rattle.dk_pqmodel.specs.NodeView.{fields_of, field_of}
use Rattle.dk_pqmodel.specs.RowView.{cells_of}
use Rattle.dk_levels.specs.Fronts.{fronts, cells_before, repeated_at}
use Rattle.dk_levels.specs.Reading.{cells_at, later_at, begins, at_repetition}
use Rattle.dk_levels.proofs.Cursors.{EachLeft}
use Rattle.dk_levels.proofs.to_rows.+read.Given as goal

abbrev pub invariant-read_each-loop-node : goal.invariant-read_each-loop-node
invariant-read_each-loop-node l =
    EachLeft (drop l.node-index l.nodes) l.cells.items (fronts l.rest) l.levels.repetition l.levels.definition l.levels.lists l.next
    (cells_at (fields_of l.nodes) l.levels.repetition l.levels.definition l.levels.lists l.place (fronts l.initial.rest)) (l.place + width_of (fields_of l.nodes))

abbrev pub invariant-read_later-loop-i : goal.invariant-read_later-loop-i
invariant-read_later-loop-i l =
    cells_before (cells_of l.cells.items) (later_at (repeated_at l.repeated (field_of l.node) l.levels.lists l.levels.definition l.levels.lists l.place)
    (λ ds. begins (at_repetition l.levels.lists) ds l.place) (l.most - l.i) (fronts l.rest))
    ≡ cells_before (cells_of l.initial.cells.items) (later_at (repeated_at l.repeated (field_of l.node) l.levels.lists l.levels.definition l.levels.lists l.place)
    (λ ds. begins (at_repetition l.levels.lists) ds l.place) l.most (fronts l.initial.rest))
