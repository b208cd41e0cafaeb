use Rattle.std.proofs.Common.{◌%◌, ◌∷◌, [], map, refl, ap, ◌∙◌, arith}
use Rattle.std.proofs.lemmas.List.{map-append}
use Rattle.dk_pqmodel.specs.ColumnView.{value_of}
use Rattle.dk_pqread.specs.Values.{flag_of}
use Rattle.dk_pqread.proofs.PlainSteps.{bit_taken, bits_done}
use Rattle.dk_pqread.proofs.plain.push_bits.Goals as goal

pub loop-preserved : goal.loop-preserved
loop-preserved c =
    bit_taken c.args.most c.loop.counter c.loop.bits (map value_of c.loop.flags.items) (map value_of c.push.new.self.items) _ (flag_of (c.loop.bits % 2)) (omega arith) refl
    (ap (map value_of) c.in_ok-push.ensures.items ∙ map-append value_of c.loop.flags.items (_ ∷ [])) c.loop.invariant

pub returns : goal.returns
returns c = bits_done c.args.most c.loop.counter c.loop.bits (map value_of c.loop.flags.items) _ (omega arith) (omega arith) c.loop.invariant
