use Rattle.std.proofs.Common.{◌^◌, ◌<◌}
use Rattle.std.specs.List.{All}
use Rattle.dk_pqcases.proofs.runs.values_of.Given as goal

abbrev pub invariant-loop-word : goal.invariant-loop-word
invariant-loop-word l = All (λ value. value < 2 ^ l.width) l.values.items
