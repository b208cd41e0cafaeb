use Rattle.std.proofs.Common.{◌^◌, arith, ◌∙◌}
use Rattle.std.proofs.lemmas.List.{length-set}
use Rattle.dk_hybrid.proofs.Groups.{masked, place_value, all_placed}
use Rattle.dk_hybrid.proofs.unpacking.eight_of.Goals as goal

pub loop-i-preserved : goal.loop-i-preserved
loop-i-preserved c = record {
  same = place_value (2 ^ c.args.width) c.loop-i.i c.loop-i.rest _ c.loop-i.values _ (omega arith) c.loop-i.invariant.eight (masked c.args.width c.loop-i.rest (omega arith)) c.loop-i.invariant.same;
  eight = length-set c.loop-i.values c.loop-i.i _ ∙ c.loop-i.invariant.eight;
}

pub returns : goal.returns
returns c = all_placed (2 ^ c.args.width) c.loop-i.i c.loop-i.rest c.loop-i.values _ (omega arith) c.loop-i.invariant.eight c.loop-i.invariant.same
