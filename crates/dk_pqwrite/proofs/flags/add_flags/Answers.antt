use Rattle.std.proofs.Common.{◌≡◌, ◌<◌, length, sym, ◌∙◌}
use Rattle.std.proofs.lemmas.Bool.{eqb-true}
use Rattle.dk_pqwrite.proofs.Packing.{ended_at, positive, step_at}
use Rattle.dk_pqwrite.proofs.flags.add_flags.Goals as goal

pub loop-rest-preserved : goal.loop-rest-preserved
loop-rest-preserved c =
    let rest = c.loop-rest.rest.now in
    let some : 0 < length rest = positive (length rest) (sym c.is_empty.ensures ∙ c.loop-rest-test.true) in
    step_at c.args.flags.now rest c.split_at.result.0.now c.split_at.result.1.now c.min.result c.args.out.now.items c.loop-rest.out.items c.push.new.self.items c.byte_of.result
    c.loop-rest.invariant c.split_at.ensures.by_index.0 c.split_at.ensures.front_len c.split_at.ensures.back_len c.min.ensures some c.byte_of.ensures c.in_ok-push.ensures.items

pub returns : goal.returns
returns c =
    let rest = c.loop-rest.rest.now in
    let none : length rest ≡ 0 = eqb-true (length rest) 0 (sym c.loop-rest-test.ensures) in
    ended_at c.args.flags.now rest c.args.out.now.items c.loop-rest.out.items none c.loop-rest.invariant
