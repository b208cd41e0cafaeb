use Rattle.std.proofs.Common.{◌≡◌, ◌++◌, map, replicate}
use Rattle.dk_pqmodel.specs.Datum.{null}
use Rattle.dk_pqmodel.specs.RowView.{datum_of}
use Rattle.dk_rowmap.proofs.writing.push_nulls.Given as goal

abbrev pub invariant-nulls : goal.invariant-nulls
invariant-nulls l = map datum_of l.cells.items ≡ map datum_of l.fn.cells.items ++ replicate l.counter null
