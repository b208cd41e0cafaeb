-- Which triples are written as the columns of a schema.
use Rattle.std.specs.Prelude.{List, [], ◌∷◌}
use Rattle.dk_pqmodel.specs.Datum.{Column}
use Rattle.dk_pqmodel.specs.FilePages.{ColumnAt}
use Rattle.dk_pqwrite.specs.Writable.{IsWritableColumn}

-- each column has triples that can be written there
abbrev pub AreWritable : List ColumnAt → List Column → Type 0
AreWritable [] [] = Unit {0}
AreWritable (c ∷ cs) (t ∷ ts) = IsWritableColumn c t × AreWritable cs ts
AreWritable cs ts = ⊥
