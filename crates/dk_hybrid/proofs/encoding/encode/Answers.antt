use Rattle.std.proofs.Common.{length, arith, sym, ◌∙◌}
use Rattle.std.proofs.lemmas.Bool.{eqb-true, eqb-false}
use Rattle.dk_hybrid.proofs.Made.{run_encoded, all_encoded}
use Rattle.dk_hybrid.proofs.encoding.encode.Goals as goal

pub loop-rest-preserved : goal.loop-rest-preserved
loop-rest-preserved c =
    run_encoded c.args.width c.in_ok-count.count c.args.values.now c.loop-rest.out.items c.loop-rest.rest.now c.append_run.new.out.items c.split_at.result.1.now
    (omega (arith, eqb-false (length c.loop-rest.rest.now) 0 (sym c.is_empty.ensures ∙ c.loop-rest-test.true))) c.in_ok-count.ensures c.split_at.ensures.back c.loop-rest.invariant

pub returns-clause-runs : goal.returns-clause-runs
returns-clause-runs c = all_encoded c.args.width c.args.values.now c.loop-rest.out.items c.loop-rest.rest.now (eqb-true (length c.loop-rest.rest.now) 0 (sym c.is_empty.ensures ∙ c.loop-rest-test.false)) c.loop-rest.invariant
