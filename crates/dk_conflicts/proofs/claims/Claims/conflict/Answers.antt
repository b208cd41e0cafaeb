use Rattle.std.proofs.Common.{arith, rules, sym, ◌∙◌}
use Rattle.dk_conflicts.proofs.FirstKind.{winner_is, winner_passed}
use Rattle.dk_conflicts.proofs.claims.Claims.conflict.Goals as goal

pub returns-in-Some : goal.returns-in-Some
returns-in-Some c = λ reads own are.
    sym (winner_is reads own c.args.winners.now c.winners.place c.as_slice.result.now c.in-Some.kind (omega arith) (search rules) (sym c.in-Some.is ∙ c.kind.ensures reads own are))
    ∙ c.winners.invariant reads own are

pub winners-preserved : goal.winners-preserved
winners-preserved c = λ reads own are.
    winner_passed reads own c.args.winners.now c.winners.place c.as_slice.result.now (omega arith) (search rules) (sym c.in_default.is ∙ c.kind.ensures reads own are)
    ∙ c.winners.invariant reads own are
