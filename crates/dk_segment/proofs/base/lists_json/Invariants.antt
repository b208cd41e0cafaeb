use Rattle.std.proofs.Common.{◌≡◌, true, false, take}
use Rattle.dk_paths.specs.Places.{V2}
use Rattle.dk_listing.specs.Presence.{lists_in_log}
use Rattle.dk_segment.proofs.base.lists_json.Given as goal

abbrev pub invariant-loop-named : goal.invariant-loop-named
invariant-loop-named l = lists_in_log (take l.named-index l.log) (V2 l.version l.id true) ≡ false
