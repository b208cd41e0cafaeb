-- The columns that are written, as plain data.
use Rattle.std.specs.Prelude.{List, filter_map}
use Rattle.dk_pqmodel.specs.Shape as shape
use Rattle.dk_pqmodel.specs.Datum.{Value, Column}
use Rattle.dk_pqmodel.specs.Projection.{Path}
use Rattle.dk_pqmodel.specs.FilePages.{ColumnAt}
use Rattle.dk_pqwrite.specs.declared.column.LeafKind.{LeafKind}
use Rattle.dk_pqwrite.specs.declared.column.LeafKind.TheVariants.{Flag, Int32, Int64, Chars}
use Rattle.dk_pqwrite.specs.declared.column.LeafColumn.{LeafColumn}

abbrev pub leaf_of_kind : LeafKind → shape.Leaf
leaf_of_kind Flag = shape.flag
leaf_of_kind Int32 = shape.int32
leaf_of_kind Int64 = shape.int64
leaf_of_kind Chars = shape.chars

-- the column where this is its path
abbrev pub leaf_column_at : Path → LeafColumn → ColumnAt
leaf_column_at path c = record { path = path; kind = leaf_of_kind c.kind; rep = c.rep; def = c.def }

abbrev pub values_of_column : Column → List Value
values_of_column triples = filter_map (λ e. e.value) triples
