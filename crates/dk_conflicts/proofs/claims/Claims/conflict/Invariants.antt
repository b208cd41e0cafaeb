use Rattle.std.proofs.Common.{◌≡◌, List, drop}
use Rattle.dk_model.specs.declared.action.Action.{Action}
use Rattle.dk_conflicts.specs.declared.reads.Reads.{Reads}
use Rattle.dk_conflicts.specs.Conflicts.{conflict_from, conflict_of}
use Rattle.dk_conflicts.specs.Claims.{AreClaims}
use Rattle.dk_conflicts.proofs.claims.Claims.conflict.Given as goal

-- the first of the commits that are left is the first of all
abbrev pub invariant-winners : goal.invariant-winners
invariant-winners l = (reads : Reads) (own : List Action) → AreClaims l.self reads own → conflict_from reads own l.place (drop l.place l.winners) ≡ conflict_of reads own l.winners
