-- The columns that are read, as plain data.
use Rattle.std.specs.Prelude.{ℕ, List, [], ◌∷◌, String}
use Rattle.std.specs.declared.alloc.Global.{Global}
use Rattle.dk_pqmodel.specs.FilePages.{ColumnAt}
use Rattle.dk_pqread.specs.LeafView.{leaf_of}
use Rattle.dk_pqread.specs.PlanView.{path_of}
use Rattle.dk_pqread.specs.declared.leaf.Leaf.{Leaf}
use Rattle.dk_pqread.specs.declared.column.Column.{Column}

abbrev pub column_at : Column → ColumnAt
column_at c = record { path = path_of c.path.items; kind = leaf_of c.kind; rep = c.rep; def = c.def }

abbrev pub one_column : List (String Global) → Leaf → ℕ → ℕ → List ColumnAt
one_column names kind rep def = record { path = path_of names; kind = leaf_of kind; rep = rep; def = def } ∷ []
