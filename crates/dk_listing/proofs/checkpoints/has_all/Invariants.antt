use Rattle.std.proofs.Common.{◌≡◌, true}
use Rattle.dk_listing.specs.Newest.{all_up_to}
use Rattle.dk_listing.specs.Parts.{has_part}
use Rattle.dk_listing.proofs.checkpoints.has_all.Given as goal

-- all parts before this one are there
abbrev pub invariant-loop-before : goal.invariant-loop-before
invariant-loop-before l = all_up_to (has_part l.set l.version l.parts) l.before ≡ true
