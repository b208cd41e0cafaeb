-- Laws of triples.
use Rattle.std.specs.Prelude.{◌≡◌, List, false}
use Rattle.dk_pqmodel.specs.Shape.{Fields}
use Rattle.dk_pqmodel.specs.Datum.{Cells, Column, appended}
use Rattle.dk_pqmodel.specs.Triples.{triples, columns_joined}
use Rattle.dk_pqmodel.specs.Fits.{AreTriplesOf}
use Rattle.dk_pqmodel.specs.Schema.{IsSchema}
use Rattle.dk_pqmodel.specs.FileSchema.{FileNodes}
use Rattle.dk_pqmodel.specs.Projection.{projection, projected_fields, all_missing}
use Rattle.dk_levels.specs.Solid.{AreReadable}

-- The fields of a schema can be read.
abbrev pub SchemasAreReadable : Type 0
SchemasAreReadable = (fs : Fields) → IsSchema fs → AreReadable fs

-- What is read of a file for a schema can be read, where the file has some of it.
abbrev pub ProjectedIsReadable : Type 0
ProjectedIsReadable = (fs : Fields) (ns : FileNodes) → IsSchema fs → all_missing (projection fs ns) ≡ false → AreReadable (projected_fields (projection fs ns))

-- At most one list of rows has given triples.
abbrev pub OneReading : Type 0
OneReading =
    (fs : Fields) (rows others : Cells) (columns : List Column) → AreReadable fs → AreTriplesOf fs rows columns → AreTriplesOf fs others columns → rows ≡ others

-- The triples of rows and of more rows behind them are the triples of both, each column behind the one at its place.
abbrev pub TriplesOfAppended : Type 0
TriplesOfAppended = (fs : Fields) (rows more : Cells) → triples fs (appended rows more) ≡ columns_joined (triples fs rows) (triples fs more)
