use Rattle.std.proofs.Common.{take, arith, sym, subst}
use Rattle.dk_hybrid.specs.Runs.{kept_values, Counts}
use Rattle.dk_hybrid.proofs.Counted.{copies_count}
use Rattle.dk_hybrid.proofs.counting.count_in.Goals as goal

pub returns-in-Repeated : goal.returns-in-Repeated
returns-in-Repeated c =
    let kept = copies_count c.args.test c.args.most c.in-Repeated.copies c.min-seen.result c.in-Repeated.value c.passing_copies.result (omega (arith, c.min-seen.ensures)) c.passing_copies.ensures in
    subst (λ r. Counts c.args.test c.args.most (take c.args.most (kept_values c.args.width r)) c.passing_copies.result c.min-seen.result) (sym c.in-Repeated.is) kept
