use Rattle.std.proofs.Common.{◌≡◌, take}
use Rattle.dk_model.proofs.pairs.Pairs.copy.Given as goal

abbrev pub invariant-pairs : goal.invariant-pairs
invariant-pairs l = l.list.items ≡ take l.pair-index l.pairs
