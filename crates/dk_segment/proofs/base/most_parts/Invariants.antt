use Rattle.std.proofs.Common.{◌≡◌, take}
use Rattle.dk_listing.specs.Newest.{newest_by}
use Rattle.dk_segment.specs.Places.{parts_of_checkpoint}
use Rattle.dk_segment.proofs.base.most_parts.Given as goal

abbrev pub invariant-loop-name : goal.invariant-loop-name
invariant-loop-name l = l.best ≡ newest_by (parts_of_checkpoint l.version) (take l.name-index l.names)
