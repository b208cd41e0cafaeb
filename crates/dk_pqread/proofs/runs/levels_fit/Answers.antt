use Rattle.std.proofs.Common.{◌+◌, Ok, sym, subst, arith}
use Rattle.dk_pqread.specs.Meanings.{AreLevelsOf, RefusesMeaning}
use Rattle.dk_pqread.specs.Room.{AreWithin}
use Rattle.dk_pqread.proofs.Rooms.{Told, below_in, none_above, levels_low, levels_above, levels_refused, sieved}
use Rattle.dk_pqread.proofs.runs.levels_fit.Goals as goal

pub returns-then-greatest-eq0 : goal.returns-then-greatest-eq0
returns-then-greatest-eq0 c levels are = none_above c.args.greatest c.args.count c.args.bytes.now levels (omega (arith, c.if-greatest-eq0.true)) are

pub returns-then-below-count : goal.returns-then-below-count
returns-then-below-count c =
    levels_low c.args.greatest c.width.result c.args.count c.args.bytes.now (omega (arith, c.if-greatest-eq0.false)) c.width.ensures.room c.in-Ok.below
    (subst (λ n. Told c.width.result c.args.count c.args.bytes.now (Ok c.in-Ok.below) (below_in (n + 1))) c.from-bound.ensures (c.in-Ok.ensures.only (omega (arith, c.width.ensures.narrow))))
    (omega (arith, c.if-below-count.true))

pub returns-else-below-count : goal.returns-else-below-count
returns-else-below-count c =
    levels_above c.args.greatest c.width.result c.args.count c.args.bytes.now (omega (arith, c.if-greatest-eq0.false)) c.width.ensures.room c.in-Ok.below
    (subst (λ n. Told c.width.result c.args.count c.args.bytes.now (Ok c.in-Ok.below) (below_in (n + 1))) c.from-bound.ensures (c.in-Ok.ensures.only (omega (arith, c.width.ensures.narrow))))
    c.if-below-count.false

pub returns-in-Err : goal.returns-in-Err
returns-in-Err c =
    sieved c.fault_of.result (AreLevelsOf c.args.greatest c.args.count c.args.bytes.now) (AreWithin c.args.greatest)
    (subst (λ fault. RefusesMeaning fault (AreLevelsOf c.args.greatest c.args.count c.args.bytes.now)) (sym c.fault_of.ensures)
    (levels_refused c.args.greatest c.width.result c.args.count c.args.bytes.now (omega (arith, c.if-greatest-eq0.false)) c.width.ensures.room c.in-Err.fault (below_in (c.from-bound.result + 1))
    (c.in-Err.ensures.only (omega (arith, c.width.ensures.narrow)))))
