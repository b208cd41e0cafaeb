use Rattle.std.proofs.Common.{◌≡◌, map, take}
use Rattle.dk_pqmodel.specs.ColumnView.{value_of}
use Rattle.dk_pqread.specs.Values.{bits_in, flag_of}
use Rattle.dk_pqread.proofs.plain.plain_flags.Given as goal

abbrev pub invariant-loop-byte : goal.invariant-loop-byte
invariant-loop-byte l = map value_of l.flags.items ≡ map flag_of (take l.count (bits_in (take l.byte-index l.bytes)))
