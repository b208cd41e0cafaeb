use Rattle.std.proofs.Common.{◌≡◌, take}
use Rattle.dk_listing.specs.Newest.{complete_names}
use Rattle.dk_listing.specs.Parts.{has_part}
use Rattle.dk_listing.proofs.checkpoints.complete_checkpoints.Given as goal

abbrev pub invariant-loop-named : goal.invariant-loop-named
invariant-loop-named l = l.found.items ≡ complete_names (has_part l.set) (take l.named-index l.log)
