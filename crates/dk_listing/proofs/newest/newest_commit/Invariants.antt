use Rattle.std.proofs.Common.{◌≡◌, take}
use Rattle.dk_listing.specs.Newest.{newest_commit}
use Rattle.dk_listing.proofs.newest.newest_commit.Given as goal

abbrev pub invariant-loop-named : goal.invariant-loop-named
invariant-loop-named l = l.best ≡ newest_commit (take l.named-index l.log)
