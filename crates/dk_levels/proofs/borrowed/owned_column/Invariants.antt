use Rattle.std.proofs.Common.{◌≡◌, map, take}
use Rattle.dk_pqmodel.specs.ColumnView.{column_of}
use Rattle.dk_levels.specs.Borrowed.{borrowed_triple}
use Rattle.dk_levels.proofs.borrowed.owned_column.Given as goal

abbrev pub invariant-loop-triple : goal.invariant-loop-triple
invariant-loop-triple l = column_of l.out ≡ map borrowed_triple (take l.triple-index l.column)
