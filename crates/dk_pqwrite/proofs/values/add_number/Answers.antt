use Rattle.std.proofs.Common.{w32, w64}
use Rattle.std.proofs.lemmas.Int.{to_z-of_z}
use Rattle.dk_pqwrite.proofs.AddingPlain.{adds_short, adds_long, in_range}
use Rattle.dk_pqwrite.proofs.values.add_number.Goals as goal

pub returns-in_ok-extend_from_slice-in-Int32 : goal.returns-in_ok-extend_from_slice-in-Int32
returns-in_ok-extend_from_slice-in-Int32 c =
    let fits = rw c.in-Int32.is at c.requires in
    let cast = rw (to_z-of_z w64 c.args.number c.ranges.number, to_z-of_z w32 c.args.number (in_range c.args.number fits)) at c.cast_unsigned.ensures in
    rw c.in-Int32.is (adds_short c.args.number c.cast_unsigned.result _ _ c.to_le_bytes.result fits cast c.to_le_bytes.ensures c.in_ok-extend_from_slice-in-Int32.ensures.items)

pub returns-in_ok-extend_from_slice-in-Int64 : goal.returns-in_ok-extend_from_slice-in-Int64
returns-in_ok-extend_from_slice-in-Int64 c =
    let cast = rw (to_z-of_z w64 c.args.number c.ranges.number) at c.cast_unsigned-in-Int64.ensures in
    rw c.in-Int64.is
    (adds_long c.args.number c.cast_unsigned-in-Int64.result _ _ c.to_le_bytes-in-Int64.result c.ranges.number cast c.to_le_bytes-in-Int64.ensures c.in_ok-extend_from_slice-in-Int64.ensures.items)
