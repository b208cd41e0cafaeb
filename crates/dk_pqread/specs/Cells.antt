-- Cells that are done and those behind them, and parts of the cells that are read.
use Rattle.std.specs.Prelude.{Bool, true, false, Option, Some, None, option_map}
use Rattle.dk_pqmodel.specs.Datum.{Datum, null, atom, group, list, Cells, no_cells, one_cell, appended}

abbrev pub is_atom : Datum → Bool
is_atom null = false
is_atom (atom v) = true
is_atom (group cs) = false
is_atom (list cs) = false

abbrev pub cells_then : Cells → Option Cells → Option Cells
cells_then done left = option_map (appended done) left

-- the first cell, if there is one, and the others
abbrev pub first_cell : Cells → Option Datum × Cells
first_cell no_cells = (None, no_cells)
first_cell (one_cell c cs) = (Some c, cs)

-- a wanted cell, which is null where nothing is read for it, and the cells that are left
abbrev pub taken_for : Bool → (Datum → Option Datum) → Cells → Option (Datum × Cells)
taken_for true turn cs = Some (null, cs)
taken_for false turn no_cells = None
taken_for false turn (one_cell c cs) = option_map (λ w. (w, cs)) (turn c)

-- the key of a map's entry, which isn't null, and its value, if the file has one
abbrev pub key_and_value : Datum → Option (Datum × Option Datum)
key_and_value (group (one_cell (atom k) no_cells)) = Some (atom k, None)
key_and_value (group (one_cell (atom k) (one_cell v no_cells))) = Some (atom k, Some v)
key_and_value c = None

-- the wanted value of an entry, which is null where the file has none
abbrev pub value_for : (Datum → Option Datum) → Option Datum → Option Datum
value_for turn None = Some null
value_for turn (Some c) = turn c
