use Rattle.std.proofs.Common.{◌≡◌, map, take}
use Rattle.dk_pqmodel.specs.ColumnView.{column_of, triple_of}
use Rattle.dk_pqmodel.proofs.columns.copy_column.Given as goal

abbrev pub invariant-loop-triple : goal.invariant-loop-triple
invariant-loop-triple l = column_of l.out ≡ map triple_of (take l.triple-index l.column)
