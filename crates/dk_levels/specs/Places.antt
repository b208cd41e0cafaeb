-- Triples that go to columns from a place on.
use Rattle.std.specs.Prelude.{◌≡◌, ℕ, List, ◌++◌, Vec}
use Rattle.std.specs.declared.alloc.Global.{Global}
use Rattle.dk_pqmodel.specs.Datum.{Column}
use Rattle.dk_pqmodel.specs.Triples.{columns_joined, empty_columns}
use Rattle.dk_levels.specs.Borrowed.{borrowed_columns}
use Rattle.dk_levels.specs.declared.borrowed.BorrowedTriple.{BorrowedTriple}

-- these columns, from that place on
abbrev pub from : ℕ → List Column → List Column
from place ts = empty_columns place ++ ts

abbrev pub Adds : ℕ → List (Vec BorrowedTriple Global) → List (Vec BorrowedTriple Global) → List Column → Type 0
Adds place old new ts = borrowed_columns new ≡ columns_joined (borrowed_columns old) (from place ts)
