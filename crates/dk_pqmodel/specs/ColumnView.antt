-- What columns stand for.
use Rattle.std.specs.Prelude.{List, map, option_map, string_bytes, Vec}
use Rattle.std.specs.declared.alloc.Global.{Global}
use Rattle.dk_pqmodel.specs.Datum as cell
use Rattle.dk_pqmodel.specs.Datum.{Column}
use Rattle.dk_pqmodel.specs.declared.columns.Value.{Value}
use Rattle.dk_pqmodel.specs.declared.columns.Value.TheVariants as value
use Rattle.dk_pqmodel.specs.declared.columns.Triple.{Triple}
use Rattle.dk_pqmodel.specs.declared.columns.Columns.{Columns}

abbrev pub value_of : Value → cell.Value
value_of (value.Flag b) = cell.flag b
value_of (value.Int n) = cell.int n
value_of (value.Chars s) = cell.chars (string_bytes s)

abbrev pub triple_of : Triple → cell.Triple
triple_of t = record { repetition = t.repetition; definition = t.definition; value = option_map value_of t.value }

abbrev pub column_of : Vec Triple Global → Column
column_of v = map triple_of v.items

abbrev pub columns_of : List (Vec Triple Global) → List Column
columns_of vs = map column_of vs

abbrev pub columns_in : Columns → List Column
columns_in columns = columns_of columns.leaves.items
