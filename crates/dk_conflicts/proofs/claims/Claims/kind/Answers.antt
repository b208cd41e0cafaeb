use Rattle.std.proofs.Common.{arith, sym, ◌∙◌}
use Rattle.dk_model.specs.declared.kind.Kind.TheVariants as Kind
use Rattle.dk_conflicts.specs.Conflicts.{all_kinds, winner_is_in_the_way}
use Rattle.dk_conflicts.proofs.FirstKind.{found_here, found_later, found_nowhere}
use Rattle.dk_conflicts.proofs.claims.Claims.kind.Goals as goal

pub returns-then-is_in_the_way : goal.returns-then-is_in_the_way
returns-then-is_in_the_way c = λ reads own are.
    sym (found_here (winner_is_in_the_way reads own c.args.winner.now) c.all_kinds-kind-items.result.now all_kinds c.kinds.kind-index Kind.ProtocolChanged c.all_kinds-kind-items.ensures
    (omega arith) (sym (c.is_in_the_way.ensures reads own are) ∙ c.if-is_in_the_way.true))
    ∙ c.kinds.invariant reads own are

pub kinds-preserved : goal.kinds-preserved
kinds-preserved c = λ reads own are.
    found_later (winner_is_in_the_way reads own c.args.winner.now) c.all_kinds-kind-items.result.now all_kinds c.kinds.kind-index Kind.ProtocolChanged c.all_kinds-kind-items.ensures
    (omega arith) (sym (c.is_in_the_way.ensures reads own are) ∙ c.if-is_in_the_way.false)
    ∙ c.kinds.invariant reads own are

pub returns : goal.returns
returns c = λ reads own are.
    sym (found_nowhere (winner_is_in_the_way reads own c.args.winner.now) c.all_kinds-kind-items.result.now all_kinds c.kinds.kind-index Kind.ProtocolChanged c.all_kinds-kind-items.ensures (omega arith))
    ∙ c.kinds.invariant reads own are
