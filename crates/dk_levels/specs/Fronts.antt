-- What is left of each column, and what a function that reads there gives.
use Rattle.std.specs.Prelude.{ℕ, ◌+◌, List, map, reverse, Option, option_map, Vec}
use Rattle.std.specs.declared.alloc.Global.{Global}
use Rattle.dk_pqmodel.specs.Shape.{Field, width_in}
use Rattle.dk_pqmodel.specs.Datum.{Column, Cells, appended}
use Rattle.dk_pqmodel.specs.ColumnView.{triple_of}
use Rattle.dk_pqmodel.specs.declared.columns.Triple.{Triple}
use Rattle.dk_levels.specs.declared.levels.Repeated.{Repeated}
use Rattle.dk_levels.specs.declared.levels.Repeated.TheVariants.{Elements, Entries}
use Rattle.dk_levels.specs.Reading.{Reader, cell_at, pair_at}

-- Columns that are turned: the next triple of each stands at its end.
abbrev pub front_of : Vec Triple Global → Column
front_of v = map triple_of (reverse v.items)

abbrev pub fronts : List (Vec Triple Global) → List Column
fronts rest = map front_of rest

-- an element of a list, or an entry of a map
abbrev pub repeated_at : Repeated → Field → ℕ → ℕ → ℕ → ℕ → Reader
repeated_at Elements f r d k place = cell_at f r d k place
repeated_at Entries f r d k place = pair_at (cell_at f r d k (place + 1)) r d place

abbrev pub element_width : Repeated → Field → ℕ
element_width Elements f = width_in f
element_width Entries f = 1 + width_in f

-- cells before those that are read next
abbrev pub cells_before : Cells → Option (Cells × List Column) → Option (Cells × List Column)
cells_before front read = option_map (λ p. (appended front p.0, p.1)) read
