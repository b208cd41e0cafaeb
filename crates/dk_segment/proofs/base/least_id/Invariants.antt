use Rattle.std.proofs.Common.{◌≡◌, take}
use Rattle.dk_segment.specs.Places.{earliest_by, id_of_name}
use Rattle.dk_segment.proofs.base.least_id.Given as goal

abbrev pub invariant-loop-name : goal.invariant-loop-name
invariant-loop-name l = l.best ≡ earliest_by (id_of_name l.version) (take l.name-index l.names)
