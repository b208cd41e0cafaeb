-- The counts that a footer says, held against each other before anything grows.
use Rattle.std.specs.Prelude.{ℕ, ◌-◌, ◌==◌, ◌&&◌, nat_le, nat_lt, Bool, true, false, if◌then◌else◌, Option, Some, None, List, [], ◌∷◌}
use Rattle.dk_pqmodel.specs.FilePages.{ColumnAt}
use Rattle.dk_pqmodel.specs.Footer.{Chunk, RowGroup}
use Rattle.dk_pqmodel.specs.Scans.{chunk_at}

-- A column of so many rows may have so many triples: one for each row where nothing repeats, and one at least where something does.
abbrev pub may_have_triples : ℕ → ℕ → ℕ → Bool
may_have_triples rep rows triples = if rep == 0 then triples == rows else nat_le rows triples

-- there is a chunk, with as many triples as a column of so many rows may have
abbrev pub chunk_agrees : ℕ → ℕ → Option Chunk → Bool
chunk_agrees rep rows None = false
chunk_agrees rep rows (Some chunk) = may_have_triples rep rows chunk.values

abbrev pub column_agrees : RowGroup → ColumnAt → Bool
column_agrees group column = chunk_agrees column.rep group.rows (chunk_at column.path group.columns)

-- of each column
abbrev pub group_agrees : RowGroup → List ColumnAt → Bool
group_agrees group [] = true
group_agrees group (c ∷ cs) = column_agrees group c && group_agrees group cs

abbrev pub groups_agree : List ColumnAt → List RowGroup → Bool
groups_agree columns [] = true
groups_agree columns (g ∷ gs) = group_agrees g columns && groups_agree columns gs

-- the groups have so many rows in all
abbrev pub have_rows : ℕ → List RowGroup → Bool
have_rows left [] = left == 0
have_rows left (g ∷ gs) = if nat_lt left g.rows then false else have_rows (left - g.rows) gs

abbrev pub counts_agree : List ColumnAt → List RowGroup → ℕ → Bool
counts_agree columns groups rows = have_rows rows groups && groups_agree columns groups
