-- The pairs so far, with those that are left, are all pairs.
use Rattle.std.proofs.Common.{◌≡◌, ◌≤◌, ◌*◌}
use Rattle.dk_paths.specs.Intervals.{words, pair_values, sum_of_pairs}
use Rattle.dk_paths.proofs.IntervalSums.{sum_after}
use Rattle.dk_paths.proofs.interval.sum_pairs.Given as goal

abbrev pub invariant-loop-count : goal.invariant-loop-count
invariant-loop-count l = record {
  same : sum_after l.count l.sum (pair_values (words l.rest)) ≡ sum_of_pairs (pair_values (words l.fn.text));
  small : l.sum ≤ l.count * 604800000000000000000;
}
