use Rattle.std.proofs.Common.{◌≡◌, sym, ◌∙◌}
use Rattle.std.specs.Vec.Iter.{into_iter_items}
use Rattle.dk_pqmodel.specs.RowView.{cells_of}
use Rattle.dk_pqread.proofs.Widening.{datum_of-Group, too_many, whole_entry}
use Rattle.dk_pqread.proofs.widen.key_and_value.Goals as goal

pub returns-then-is_some : goal.returns-then-is_some
returns-then-is_some c =
    let items : into_iter_items c.into_iter-cells.result ≡ c.in-Group.cells.items = c.into_iter-cells.ensures.rest in
    rw (c.in-Group.is, datum_of-Group c.in-Group.cells)
    (too_many (cells_of c.in-Group.cells.items) (cells_of (into_iter_items c.next_cell.new.cells)) (cells_of (into_iter_items c.next_cell-value.new.cells)) (cells_of (into_iter_items c.next_cell-2.new.cells))
    c.in_ok-key.key c.next_cell-value.result c.next_cell-2.result (rw items at c.in_ok-key.ensures) c.next_cell-value.ensures c.next_cell-2.ensures (sym c.is_some.ensures ∙ c.if-is_some.true))

pub returns-then-is_atom : goal.returns-then-is_atom
returns-then-is_atom c =
    let items : into_iter_items c.into_iter-cells.result ≡ c.in-Group.cells.items = c.into_iter-cells.ensures.rest in
    rw (c.in-Group.is, datum_of-Group c.in-Group.cells)
    (whole_entry (cells_of c.in-Group.cells.items) (cells_of (into_iter_items c.next_cell.new.cells)) (cells_of (into_iter_items c.next_cell-value.new.cells)) (cells_of (into_iter_items c.next_cell-2.new.cells))
    c.in_ok-key.key c.next_cell-value.result c.next_cell-2.result (rw items at c.in_ok-key.ensures) c.next_cell-value.ensures c.next_cell-2.ensures (sym c.is_some.ensures ∙ c.if-is_some.false)
    (sym c.is_atom.ensures ∙ c.if-is_atom.true))
