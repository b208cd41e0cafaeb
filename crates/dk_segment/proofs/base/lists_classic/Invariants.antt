use Rattle.std.proofs.Common.{◌≡◌, false, take}
use Rattle.dk_paths.specs.Places.{Classic}
use Rattle.dk_listing.specs.Presence.{lists_in_log}
use Rattle.dk_segment.proofs.base.lists_classic.Given as goal

abbrev pub invariant-loop-named : goal.invariant-loop-named
invariant-loop-named l = lists_in_log (take l.named-index l.log) (Classic l.version) ≡ false
