-- Each row begins in each column once, with the repetition level 0.
use Rattle.std.specs.Prelude.{◌≡◌, ◌+◌, ℕ, zero, suc, Option, List, [], ◌∷◌}
use Rattle.dk_pqmodel.specs.Datum.{Value, Column}
use Rattle.dk_pqmodel.specs.FileMeans.{HasColumn, HasColumns}
use Rattle.dk_pqmodel.specs.FilePages.{ColumnAt}
use Rattle.dk_pqmodel.specs.Footer.{RowGroup}
use Rattle.dk_pqmodel.specs.Pages.{Page}
use Rattle.dk_pqread.specs.ChunkMeaning.{DataFrom}
use Rattle.dk_pqread.specs.PageMeaning.{PageHolds}

-- one where it is 0
abbrev pub zero_at : ℕ → ℕ
zero_at zero = 1
zero_at (suc n) = 0

-- how many rows begin in a column
abbrev pub starts : Column → ℕ
starts [] = 0
starts (e ∷ es) = zero_at e.repetition + starts es

-- so many in each column
abbrev pub Each : ℕ → List Column → Type 0
Each n [] = Unit {0}
Each n (c ∷ cs) = (starts c ≡ n) × Each n cs

-- a data page's triples, whatever dictionary it is read with
abbrev pub OnPage : ColumnAt → Page → Column → Type 0
OnPage column page triples = (dictionary : Option (List Value)) × PageHolds column dictionary page triples

-- those of data pages from a place on
abbrev pub OnPages : List ℕ → ColumnAt → ℕ → ℕ → Column → Type 0
OnPages before column place count triples = (dictionary : Option (List Value)) × DataFrom before column dictionary place count triples

-- triples of the column in the group's chunk, in which as many rows begin as the group has
abbrev pub BeginsRows : List ℕ → RowGroup → ColumnAt → Column → Type 0
BeginsRows before group column triples = HasColumn before group column triples × (starts triples ≡ group.rows)

-- of all columns
abbrev pub BeginRows : List ℕ → RowGroup → List ColumnAt → List Column → Type 0
BeginRows before group columns triples = HasColumns before group columns triples × Each group.rows triples

-- of all groups
abbrev pub AllBeginRows : List ℕ → List ColumnAt → List RowGroup → List (List Column) → Type 0
AllBeginRows before columns [] [] = Unit {0}
AllBeginRows before columns (g ∷ gs) (t ∷ ts) = BeginRows before g columns t × AllBeginRows before columns gs ts
AllBeginRows before columns gs ts = ⊥
