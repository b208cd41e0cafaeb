use Rattle.std.proofs.Common.{◌-◌, map, arith}
use Rattle.std.proofs.lemmas.List.{length-map}
use Rattle.dk_pqmodel.specs.ColumnView.{value_of}
use Rattle.dk_pqread.proofs.PlainSteps.{byte_more}
use Rattle.dk_pqread.proofs.plain.plain_flags.Goals as goal

pub loop-byte-preserved : goal.loop-byte-preserved
loop-byte-preserved c =
    byte_more c.args.bytes.now c.loop-byte.byte-index c.args.count (c.args.count - c.len.result) (map value_of c.loop-byte.flags.items) (map value_of c.push_bits.new.flags.items) (omega arith)
    (omega (arith, length-map c.loop-byte.flags.items value_of, c.len.ensures, c.loop-byte.flags.ok.0)) c.loop-byte.invariant c.in_ok-push_bits.ensures
