use Rattle.std.proofs.Common.{arith, rules, length-take, length-drop}
use Rattle.dk_store.proofs.Giving.{taken_more, part_more}
use Rattle.dk_store.proofs.stream.give_all.Goals as goal

pub loop-at-preserved : goal.loop-at-preserved
loop-at-preserved g c =
    let most = simp (length-take, length-drop) at c.in-Ok.ensures.most in
    (omega arith, taken_more _ _ _ c.loop-at.at _ _ c.loop-at.invariant.1 c.in-Ok.ensures.gives.bytes, search rules)

pub returns-in-Err : goal.returns-in-Err
returns-in-Err g c = record {
  gives = record {
    done = search rules;
    part = part_more _ _ _ c.loop-at.at c.args.text.now c.loop-at.invariant.1 c.in-Err.ensures.gives.bytes;
    later = search rules;
    failed = search rules;
  };
}
