-- What columns that borrow their texts stand for.
use Rattle.std.specs.Prelude.{Option, Some, None, List, map, Vec}
use Rattle.std.specs.declared.alloc.Global.{Global}
use Rattle.dk_pqmodel.specs.Datum as cell
use Rattle.dk_pqmodel.specs.Datum.{Triple, Column}
use Rattle.dk_levels.specs.declared.borrowed.BorrowedValue.{BorrowedValue}
use Rattle.dk_levels.specs.declared.borrowed.BorrowedValue.TheVariants as value
use Rattle.dk_levels.specs.declared.borrowed.BorrowedTriple.{BorrowedTriple}

abbrev pub borrowed_value : BorrowedValue → Option cell.Value
borrowed_value value.Null = None
borrowed_value (value.Flag b) = Some (cell.flag b)
borrowed_value (value.Int n) = Some (cell.int n)
borrowed_value (value.Chars s) = Some (cell.chars s.now)

abbrev pub borrowed_triple : BorrowedTriple → Triple
borrowed_triple t = record { repetition = t.repetition; definition = t.definition; value = borrowed_value t.value }

abbrev pub borrowed_column : Vec BorrowedTriple Global → Column
borrowed_column v = map borrowed_triple v.items

abbrev pub borrowed_columns : List (Vec BorrowedTriple Global) → List Column
borrowed_columns vs = map borrowed_column vs
