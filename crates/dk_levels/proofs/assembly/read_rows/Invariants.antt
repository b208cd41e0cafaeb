use Rattle.std.proofs.Common.{◌≡◌, ◌-◌}
use Rattle.dk_pqmodel.specs.Shape.{root}
use Rattle.dk_pqmodel.specs.NodeView.{fields_of}
use Rattle.dk_pqmodel.specs.RowView.{rows_of}
use Rattle.dk_levels.specs.Fronts.{fronts, cells_before}
use Rattle.dk_levels.specs.Reading.{cell_at, later_at, begins, at_repetition}
use Rattle.dk_levels.proofs.assembly.read_rows.Given as goal

abbrev pub invariant-loop-i : goal.invariant-loop-i
invariant-loop-i l =
    cells_before (rows_of l.rows.items) (later_at (cell_at (root (fields_of l.nodes)) 0 0 0 0) (λ ds. begins (at_repetition 0) ds 0) (l.most - l.i) (fronts l.rest))
    ≡ later_at (cell_at (root (fields_of l.nodes)) 0 0 0 0) (λ ds. begins (at_repetition 0) ds 0) l.most (fronts l.initial.rest)
