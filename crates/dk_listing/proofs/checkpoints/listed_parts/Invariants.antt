use Rattle.std.proofs.Common.{take}
use Rattle.dk_listing.specs.Parts.{HasParts}
use Rattle.dk_listing.proofs.checkpoints.listed_parts.Given as goal

abbrev pub invariant-loop-named : goal.invariant-loop-named
invariant-loop-named l = HasParts l.set (take l.named-index l.log)
