use Rattle.std.proofs.Common.{◌≡◌, drop}
use Rattle.dk_levels.specs.Fronts.{fronts}
use Rattle.dk_levels.specs.Reading.{all_empty}
use Rattle.dk_levels.proofs.fronts.is_all_read.Given as goal

abbrev pub invariant-loop-column : goal.invariant-loop-column
invariant-loop-column l = all_empty (fronts (drop l.column-index l.rest)) ≡ all_empty (fronts l.rest)
