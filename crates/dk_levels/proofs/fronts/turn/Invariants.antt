use Rattle.std.proofs.Common.{◌≡◌}
use Rattle.dk_pqmodel.specs.ColumnView.{columns_of}
use Rattle.dk_levels.proofs.Turned.{turned}
use Rattle.dk_levels.proofs.fronts.turn.Given as goal

abbrev pub invariant-loop-column : goal.invariant-loop-column
invariant-loop-column l = turned l.column-index l.columns ≡ columns_of l.initial.columns
