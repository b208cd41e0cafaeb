-- The triples of rows, column by column.
use Rattle.std.specs.Prelude.{ℕ, ◌+◌, if◌then◌else◌, List, [], ◌∷◌, ◌++◌, replicate, Some, None}
use Rattle.dk_pqmodel.specs.Shape.{Shape, Field, Fields, no_fields, one_field, shape_in, is_nullable, fields_at, element_at, width_at, width_in, root}
use Rattle.dk_pqmodel.specs.Datum.{Datum, null, atom, group, list, Cells, no_cells, one_cell, Column, single_triple}

-- columns behind one another, each behind the column at its place
abbrev pub columns_joined : List Column → List Column → List Column
columns_joined [] bs = bs
columns_joined (a ∷ more) [] = a ∷ more
columns_joined (a ∷ more) (b ∷ bs) = (a ++ b) ∷ columns_joined more bs

abbrev pub empty_columns : ℕ → List Column
empty_columns n = replicate n []

-- Nothing, at this level: one triple in each column.
abbrev pub nothing : Shape → ℕ → ℕ → List Column
nothing s r d = replicate (width_at s) (single_triple r d None)

-- the definition level of a field that isn't null
abbrev pub reached : Field → ℕ → ℕ
reached f d = if is_nullable f then d + 1 else d

-- r is the repetition level of the cell's first triple, d the definition level reached, and k the number of lists around it.
abbrev mutual
  pub cell_triples : Datum → Field → ℕ → ℕ → ℕ → List Column
  cell_triples null f r d k = nothing (shape_in f) r d
  cell_triples (atom v) f r d k = single_triple r (reached f d) (Some v) ∷ []
  cell_triples (group cs) f r d k = group_triples cs (fields_at (shape_in f)) r (reached f d) k
  cell_triples (list cs) f r d k = list_triples cs (element_at (shape_in f)) r (reached f d) k

  -- the columns of the first field, then those of the others
  pub group_triples : Cells → Fields → ℕ → ℕ → ℕ → List Column
  group_triples no_cells fs r d k = []
  group_triples (one_cell c cs) no_fields r d k = []
  group_triples (one_cell c cs) (one_field f fs) r d k = cell_triples c f r d k ++ group_triples cs fs r d k

  -- The first element keeps the repetition level, each later one has the list's own.
  pub list_triples : Cells → Field → ℕ → ℕ → ℕ → List Column
  list_triples no_cells f r d k = nothing (shape_in f) r d
  list_triples (one_cell c cs) f r d k = columns_joined (cell_triples c f r (d + 1) (k + 1)) (later_triples cs f (d + 1) (k + 1))

  pub later_triples : Cells → Field → ℕ → ℕ → List Column
  later_triples no_cells f d k = []
  later_triples (one_cell c cs) f d k = columns_joined (cell_triples c f k d k) (later_triples cs f d k)

-- Rows begin at level 0.
abbrev pub triples : Fields → Cells → List Column
triples fs rows = columns_joined (empty_columns (width_in (root fs))) (later_triples rows (root fs) 0 0)
