use Rattle.std.proofs.Common.{◌-◌, ◌<◌, ◌++◌, length, take, arith, ap, ◌∙◌}
use Rattle.dk_grammar.proofs.Runs.{first_length, short_has_none}
use Rattle.dk_hybrid.proofs.Progress.{advance, ends, stops, only, ended, Found}
use Rattle.dk_hybrid.specs.Runs.{kept_values}
use Rattle.dk_hybrid.proofs.decoding.decode.Goals as goal
use Rattle.dk_hybrid.proofs.decoding.decode.Goals.{After-loop-rest}

pub returns-in_default-clause-only : goal.returns-in_default-clause-only
returns-in_default-clause-only c narrow values front rest first whole =
    let fewer : length c.loop-rest.values.items < c.args.count = omega arith in
    short_has_none c.args.width c.args.count values c.args.bytes.now front rest
    (stops c.args.width c.args.count c.args.bytes.now c.loop-rest.values.items c.loop-rest.rest.now fewer c.in_default.ensures c.loop-rest.invariant) first whole

pub loop-rest-preserved : goal.loop-rest-preserved
loop-rest-preserved c =
    let fewer : length c.loop-rest.values.items < c.args.count = omega arith in
    advance c.args.width c.args.count c.args.bytes.now c.loop-rest.values.items c.loop-rest.rest.now c.in-Some.run' c.in-Some.after.now c.append.new.values.items
    fewer (omega arith) c.loop-rest.invariant c.in-Some.ensures
    (c.in_ok-append.ensures ∙ ap (λ n. c.loop-rest.values.items ++ take (c.args.count - n) (kept_values c.args.width c.in-Some.run')) (omega arith))

found : (c : After-loop-rest) → Found c.args.width c.args.count c.args.bytes.now c.loop-rest.values.items (length c.args.bytes.now - length c.loop-rest.rest.now)
found c = ends c.args.width c.args.count c.args.bytes.now c.loop-rest.values.items c.loop-rest.rest.now (omega arith) c.loop-rest.invariant

pub returns-clause-found : goal.returns-clause-found
returns-clause-found c = ((found c).within, (found c).first)

pub returns-clause-count : goal.returns-clause-count
returns-clause-count c = first_length c.args.width c.args.count c.loop-rest.values.items _ (found c).first

pub returns-clause-only : goal.returns-clause-only
returns-clause-only c narrow = only c.args.width c.args.count c.args.bytes.now c.loop-rest.values.items (length c.args.bytes.now - length c.loop-rest.rest.now) (found c)

pub returns-clause-ended : goal.returns-clause-ended
returns-clause-ended c short = absurd (ended c.args.width c.args.count c.args.bytes.now c.loop-rest.values.items (length c.args.bytes.now - length c.loop-rest.rest.now) (found c) short)
