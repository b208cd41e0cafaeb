-- What is left has the words of the whole.
use Rattle.std.proofs.Common.{◌≡◌, drop}
use Rattle.dk_paths.specs.Intervals.{words}
use Rattle.dk_paths.proofs.words.skip_spaces.Given as goal

abbrev pub invariant-loop-start : goal.invariant-loop-start
invariant-loop-start l = words (drop l.start l.text) ≡ words l.fn.text
