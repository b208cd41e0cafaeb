use Rattle.std.proofs.Common.{◌≡◌}
use Rattle.dk_pqmodel.specs.RowView.{rows_of}
use Rattle.dk_pqread.specs.RowsMeaning.{empty_rows}
use Rattle.dk_pqread.proofs.rows.empty_rows.Given as goal

abbrev pub invariant-loop : goal.invariant-loop
invariant-loop l = rows_of l.rows.items ≡ empty_rows l.counter
