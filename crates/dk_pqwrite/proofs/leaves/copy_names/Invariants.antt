use Rattle.std.proofs.Common.{◌≡◌, map, string_bytes, take}
use Rattle.dk_pqwrite.specs.SchemaLeaves.{walked_names}
use Rattle.dk_pqwrite.proofs.leaves.copy_names.Given as goal

abbrev pub invariant-loop-name : goal.invariant-loop-name
invariant-loop-name l = map string_bytes l.owned.items ≡ walked_names (take l.name-index l.names)
