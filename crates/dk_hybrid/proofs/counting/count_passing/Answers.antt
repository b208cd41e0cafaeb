use Rattle.std.proofs.Common.{arith}
use Rattle.dk_hybrid.proofs.Counted.{begin, step, counted, too_short}
use Rattle.dk_hybrid.proofs.counting.count_passing.Goals as goal

pub loop-left-init : goal.loop-left-init
loop-left-init c = begin c.args.width c.args.count c.args.test c.args.bytes.now

pub returns-in_default-clause-only : goal.returns-in_default-clause-only
returns-in_default-clause-only c narrow values front rest first whole =
    too_short c.args.width c.args.count c.args.test c.args.bytes.now c.loop-left.found c.loop-left.left c.loop-left.rest.now (omega (arith, c.loop-left-test.true)) c.in_default.ensures c.loop-left.invariant values front rest first whole

pub loop-left-preserved : goal.loop-left-preserved
loop-left-preserved c =
    step c.args.width c.args.count c.args.test c.args.bytes.now c.loop-left.found c.loop-left.left c.loop-left.rest.now c.in-Some.run' c.in-Some.after.now c.in_ok-passing.passing c.in_ok-passing.seen
    (omega (arith, c.loop-left-test.true)) (omega arith) c.loop-left.invariant c.in-Some.ensures c.in_ok-passing.ensures

pub returns-clause-only : goal.returns-clause-only
returns-clause-only c narrow values front rest first whole =
    counted c.args.width c.args.count c.args.test c.args.bytes.now c.loop-left.found c.loop-left.left c.loop-left.rest.now (omega (arith, c.loop-left-test.false)) c.loop-left.invariant values front rest first whole
