-- What is read is the first word so far.
use Rattle.std.proofs.Common.{◌≡◌, take, drop}
use Rattle.dk_paths.specs.Intervals.{words, words_after}
use Rattle.dk_paths.proofs.words.split_word.Given as goal

abbrev pub invariant-loop-end : goal.invariant-loop-end
invariant-loop-end l = words_after (take l.«end» l.text) (drop l.«end» l.text) ≡ words l.fn.text
