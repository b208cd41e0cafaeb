use Rattle.std.proofs.Common.{◌≡◌, drop, map}
use Rattle.dk_pqmodel.specs.ColumnView.{value_of}
use Rattle.dk_pqmodel.specs.Footer.{each_of}
use Rattle.dk_pqread.specs.Values.{flag_at}
use Rattle.dk_pqread.proofs.Eaches.{each_then}
use Rattle.dk_pqread.proofs.values.flags_of.Given as goal

abbrev pub invariant-loop-bit : goal.invariant-loop-bit
invariant-loop-bit l = each_then (map value_of l.flags.items) (each_of flag_at (drop l.bit-index l.bits)) ≡ each_of flag_at l.bits
