use Rattle.std.proofs.Common.{◌≡◌, take}
use Rattle.dk_listing.specs.Newest.{newest_by}
use Rattle.dk_segment.specs.Places.{allowed_version}
use Rattle.dk_segment.proofs.base.base_version.Given as goal

abbrev pub invariant-loop-name : goal.invariant-loop-name
invariant-loop-name l = l.best ≡ newest_by (allowed_version l.allowed l.asked) (take l.name-index l.names)
