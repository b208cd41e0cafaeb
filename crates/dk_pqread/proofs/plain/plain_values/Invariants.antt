use Rattle.std.proofs.Common.{◌≡◌, ◌-◌, map}
use Rattle.dk_pqmodel.specs.ColumnView.{value_of}
use Rattle.dk_pqread.specs.LeafView.{leaf_of}
use Rattle.dk_pqread.specs.Values.{plains_at, values_then}
use Rattle.dk_pqread.proofs.plain.plain_values.Given as goal

abbrev pub invariant-loop : goal.invariant-loop
invariant-loop l = values_then (map value_of l.values.items) (plains_at (leaf_of l.kind) (l.count - l.counter) l.rest) ≡ plains_at (leaf_of l.kind) l.count l.bytes
