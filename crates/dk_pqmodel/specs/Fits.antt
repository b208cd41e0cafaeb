-- When rows fit a schema.
use Rattle.std.specs.Prelude.{◌≡◌, List, ℤ, Bool, true, false, IsTrue, ⊤, pos, negsuc, nat_lt, ◌^◌}
use Rattle.dk_pqmodel.specs.Shape.{Leaf, flag, int32, int64, chars, Shape, leaf, group, list, map_of, Field, Fields, no_fields, one_field, entry, root, shape_in, is_nullable}
use Rattle.dk_pqmodel.specs.Datum as cell
use Rattle.dk_pqmodel.specs.Datum.{Value, Datum, null, atom, Cells, no_cells, one_cell, Column}
use Rattle.dk_pqmodel.specs.Triples.{triples}

-- A value is of a leaf's kind. A number is of either integer kind, whatever its size.
abbrev pub is_of_kind : Value → Leaf → Bool
is_of_kind (cell.flag b) flag = true
is_of_kind (cell.int n) int32 = true
is_of_kind (cell.int n) int64 = true
is_of_kind (cell.chars t) chars = true
is_of_kind v l = false

abbrev pub in_i32 : ℤ → Bool
in_i32 (pos n) = nat_lt n (2 ^ 31)
in_i32 (negsuc n) = nat_lt n (2 ^ 31)

-- A value can be written at a leaf: it is of the leaf's kind, and an Int32 is in the range of i32.
abbrev pub fits_leaf : Value → Leaf → Bool
fits_leaf (cell.flag b) flag = true
fits_leaf (cell.int n) int32 = in_i32 n
fits_leaf (cell.int n) int64 = true
fits_leaf (cell.chars t) chars = true
fits_leaf v l = false

abbrev pub OnLeaf : Shape → (Leaf → Type 0) → Type 0
OnLeaf (leaf l) P = P l
OnLeaf s P = ⊥

abbrev pub OnGroup : Shape → (Fields → Type 0) → Type 0
OnGroup (group fs) P = P fs
OnGroup s P = ⊥

abbrev pub OnList : Shape → (Field → Type 0) → Type 0
OnList (list f) P = P f
OnList (map_of f) P = P (entry f)
OnList s P = ⊥

-- A cell has the form of its field, and each value in it passes the test at its leaf.
abbrev mutual
  pub CellBy : (Value → Leaf → Bool) → Datum → Field → Type 0
  CellBy test null f = IsTrue (is_nullable f)
  CellBy test (atom v) f = OnLeaf (shape_in f) (λ l. IsTrue (test v l))
  CellBy test (cell.group cs) f = OnGroup (shape_in f) (EachBy test cs)
  CellBy test (cell.list cs) f = OnList (shape_in f) (AllBy test cs)

  -- one cell for each field
  pub EachBy : (Value → Leaf → Bool) → Cells → Fields → Type 0
  EachBy test no_cells no_fields = ⊤
  EachBy test no_cells (one_field f fs) = ⊥
  EachBy test (one_cell c cs) no_fields = ⊥
  EachBy test (one_cell c cs) (one_field f fs) = CellBy test c f × EachBy test cs fs

  -- each is a cell of the one field
  pub AllBy : (Value → Leaf → Bool) → Cells → Field → Type 0
  AllBy test no_cells f = ⊤
  AllBy test (one_cell c cs) f = CellBy test c f × AllBy test cs f

-- the form of what is read
abbrev pub Matches : Datum → Field → Type 0
Matches = CellBy is_of_kind

abbrev pub MatchEach : Cells → Fields → Type 0
MatchEach = EachBy is_of_kind

abbrev pub MatchAll : Cells → Field → Type 0
MatchAll = AllBy is_of_kind

-- The rows have the form of the schema.
abbrev pub AreRowsOf : Fields → Cells → Type 0
AreRowsOf fs rows = MatchAll rows (root fs)

-- The rows fit the schema: they can be written.
abbrev pub Fit : Fields → Cells → Type 0
Fit fs rows = AllBy fits_leaf rows (root fs)

-- The columns are the triples of the rows, which have the form of the schema.
abbrev pub AreTriplesOf : Fields → Cells → List Column → Type 0
AreTriplesOf fs rows columns = AreRowsOf fs rows × (columns ≡ triples fs rows)
