-- How much rows weigh, and how many bytes their file has at most.
use Rattle.std.specs.Prelude.{ℕ, ◌+◌, ◌*◌, length, sum_by, Option, Some, None}
use Rattle.dk_pqmodel.specs.Shape.{Shape, leaf, map_of, Field, field, Fields, no_fields, one_field}
use Rattle.dk_pqmodel.specs.Shape as shape
use Rattle.dk_pqmodel.specs.Datum.{Value, flag, int, chars, Datum, null, atom, group, list, Cells, no_cells, one_cell, Column}
use Rattle.dk_pqmodel.specs.Triples.{triples}

-- the length of the text, if it is one
abbrev pub text_length : Value → ℕ
text_length (flag b) = 0
text_length (int n) = 0
text_length (chars t) = length t

-- 16 for each cell at every depth, and the length of its text
abbrev mutual
  pub weight_in : Datum → ℕ
  weight_in null = 16
  weight_in (atom v) = 16 + text_length v
  weight_in (group cs) = 16 + weight_of cs
  weight_in (list cs) = 16 + weight_of cs

  pub weight_of : Cells → ℕ
  weight_of no_cells = 0
  weight_of (one_cell c cs) = weight_in c + weight_of cs

-- the cells of a row; the row itself is no cell
abbrev pub cells_in : Datum → Cells
cells_in null = no_cells
cells_in (atom v) = no_cells
cells_in (group cs) = cs
cells_in (list cs) = cs

abbrev pub weight : Cells → ℕ
weight no_cells = 0
weight (one_cell row rows) = weight_of (cells_in row) + weight rows

-- rows up to this weight are written
abbrev pub most_weight : ℕ
most_weight = 1073741824

-- for each node 1,024 and twice the lengths of the names on its path, which are around long so far
abbrev mutual
  pub node_bytes_at : ℕ → Shape → ℕ
  node_bytes_at around (leaf l) = 0
  node_bytes_at around (shape.group fs) = node_bytes_of around fs
  node_bytes_at around (shape.list f) = node_bytes_in around f
  node_bytes_at around (map_of f) = node_bytes_in around f

  pub node_bytes_in : ℕ → Field → ℕ
  node_bytes_in around (field name nullable s) = 1024 + 2 * (around + length name) + node_bytes_at (around + length name) s

  pub node_bytes_of : ℕ → Fields → ℕ
  node_bytes_of around no_fields = 0
  node_bytes_of around (one_field f fs) = node_bytes_in around f + node_bytes_of around fs

-- 64 for each triple, and the length of its text
abbrev pub value_bytes : Option Value → ℕ
value_bytes None = 64
value_bytes (Some v) = 64 + text_length v

abbrev pub column_bytes : Column → ℕ
column_bytes c = sum_by (λ e. value_bytes e.value) c

-- A file of the rows has at most so many bytes.
abbrev pub most_bytes : Fields → Cells → ℕ
most_bytes fs rows = 1024 + node_bytes_of 0 fs + sum_by column_bytes (triples fs rows)
