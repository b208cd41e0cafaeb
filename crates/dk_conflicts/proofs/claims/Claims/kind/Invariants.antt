use Rattle.std.proofs.Common.{◌≡◌, List, drop, find}
use Rattle.dk_model.specs.declared.action.Action.{Action}
use Rattle.dk_conflicts.specs.declared.reads.Reads.{Reads}
use Rattle.dk_conflicts.specs.Conflicts.{all_kinds, winner_is_in_the_way, kind_of}
use Rattle.dk_conflicts.specs.Claims.{AreClaims}
use Rattle.dk_conflicts.proofs.claims.Claims.kind.Given as goal

-- the first of the kinds that are left is the first of all
abbrev pub invariant-kinds : goal.invariant-kinds
invariant-kinds l = (reads : Reads) (own : List Action) → AreClaims l.self reads own → find (winner_is_in_the_way reads own l.winner) (drop l.kind-index all_kinds) ≡ kind_of reads own l.winner
