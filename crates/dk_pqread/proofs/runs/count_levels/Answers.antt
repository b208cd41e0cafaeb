use Rattle.std.proofs.Common.{◌==◌, Ok, sym, subst, arith}
use Rattle.std.specs.List.{count_by}
use Rattle.dk_pqread.specs.Meanings.{AreLevelsOf, RefusesMeaning}
use Rattle.dk_pqread.proofs.Rooms.{Told, zeros_counted, levels_told, levels_refused}
use Rattle.dk_pqread.proofs.runs.count_levels.Goals as goal

pub returns-then-greatest-eq0-clause-counted : goal.returns-then-greatest-eq0-clause-counted
returns-then-greatest-eq0-clause-counted c levels are = zeros_counted c.args.greatest c.args.wanted c.args.count c.args.bytes.now levels (omega (arith, c.if-greatest-eq0.true)) c.requires are

pub returns-in-Ok-clause-counted : goal.returns-in-Ok-clause-counted
returns-in-Ok-clause-counted c =
    levels_told c.args.greatest c.width.result c.args.count c.args.bytes.now (omega (arith, c.if-greatest-eq0.false)) c.width.ensures.room c.in-Ok.levels (count_by (λ level. level == c.args.wanted))
    (subst (λ n. Told c.width.result c.args.count c.args.bytes.now (Ok c.in-Ok.levels) (count_by (λ level. level == n))) c.from.ensures (c.in-Ok.ensures.only (omega (arith, c.width.ensures.narrow))))

pub returns-in-Err-clause-counted : goal.returns-in-Err-clause-counted
returns-in-Err-clause-counted c =
    subst (λ fault. RefusesMeaning fault (AreLevelsOf c.args.greatest c.args.count c.args.bytes.now)) (sym c.fault_of.ensures)
    (levels_refused c.args.greatest c.width.result c.args.count c.args.bytes.now (omega (arith, c.if-greatest-eq0.false)) c.width.ensures.room c.in-Err.fault (count_by (λ level. level == c.from.result))
    (c.in-Err.ensures.only (omega (arith, c.width.ensures.narrow))))
