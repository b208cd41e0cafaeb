-- Cells and rows as plain data, and the triples of a column.
use Rattle.std.specs.Prelude.{ℕ, ℤ, Bool, List, [], ◌∷◌, Option}

-- what a leaf holds
pub data Value : Type 0 where
  flag : Bool → Value
  int : ℤ → Value
  chars : List ℕ → Value

mutual
  pub data Datum : Type 0 where
    null : Datum
    atom : Value → Datum
    group : Cells → Datum
    list : Cells → Datum

  pub data Cells : Type 0 where
    no_cells : Cells
    one_cell : Datum → Cells → Cells

-- an entry of a column
pub record Triple : Type 0 where
  pub repetition : ℕ
  pub definition : ℕ
  pub value : Option Value

abbrev pub Column : Type 0
Column = List Triple

abbrev pub single_triple : ℕ → ℕ → Option Value → Column
single_triple r d v = record { repetition = r; definition = d; value = v } ∷ []

-- these cells, and those behind them
abbrev pub appended : Cells → Cells → Cells
appended no_cells more = more
appended (one_cell c cs) more = one_cell c (appended cs more)
