use Rattle.std.proofs.Common.{◌+◌, drop}
use Rattle.dk_pqmodel.specs.Shape.{width_of}
use Rattle.dk_pqmodel.specs.Triples.{columns_joined, group_triples, later_triples}
use Rattle.dk_pqmodel.specs.NodeView.{fields_of, field_of}
use Rattle.dk_pqmodel.specs.RowView.{cells_of}
use Rattle.dk_levels.specs.Borrowed.{borrowed_columns}
use Rattle.dk_levels.specs.Places.{from}
use Rattle.dk_levels.specs.Repeated.{element_of}
use Rattle.dk_levels.proofs.Pending.{GroupPending, LaterPending}
use Rattle.dk_levels.proofs.to_columns.+put.Given as goal

abbrev pub invariant-put_group-loop-i : goal.invariant-put_group-loop-i
invariant-put_group-loop-i l =
    GroupPending l.columns l.next (drop l.i l.nodes) (drop l.i l.cells) l.levels.repetition l.levels.definition l.levels.lists
    (columns_joined (borrowed_columns l.initial.columns) (from l.leaf (group_triples (cells_of l.cells) (fields_of l.nodes) l.levels.repetition l.levels.definition l.levels.lists)))
    (l.leaf + width_of (fields_of l.nodes))

abbrev pub invariant-put_later-loop-i : goal.invariant-put_later-loop-i
invariant-put_later-loop-i l =
    LaterPending l.columns l.leaf (element_of l.repeated (field_of l.node)) (drop l.i l.cells) l.levels.definition l.levels.lists
    (columns_joined (borrowed_columns l.initial.columns) (from l.leaf (later_triples (cells_of (drop 1 l.cells)) (element_of l.repeated (field_of l.node)) l.levels.definition l.levels.lists)))
