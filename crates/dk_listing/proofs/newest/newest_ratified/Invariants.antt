use Rattle.std.proofs.Common.{◌≡◌, take}
use Rattle.dk_listing.specs.Newest.{newest_ratified}
use Rattle.dk_listing.proofs.newest.newest_ratified.Given as goal

abbrev pub invariant-loop-ratification : goal.invariant-loop-ratification
invariant-loop-ratification l = l.best ≡ newest_ratified (take l.ratification-index l.ratified)
