use Rattle.std.proofs.Common.{◌≡◌, take}
use Rattle.dk_listing.specs.Newest.{newest_by, checkpoint_version}
use Rattle.dk_listing.proofs.newest.newest_named.Given as goal

abbrev pub invariant-loop-name : goal.invariant-loop-name
invariant-loop-name l = l.best ≡ newest_by checkpoint_version (take l.name-index l.names)
