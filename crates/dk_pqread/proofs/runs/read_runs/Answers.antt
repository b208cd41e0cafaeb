use Rattle.std.proofs.Common.{ℕ, Vec, Global, sym, subst, length}
use Rattle.dk_pqread.specs.Meanings.{HoldRuns, RefusesMeaning}
use Rattle.dk_pqread.proofs.Rooms.{refused_by}
use Rattle.dk_pqread.proofs.RunReading.{runs_found}
use Rattle.dk_pqread.proofs.runs.read_runs.Goals as goal

pub returns-in-Ok : goal.returns-in-Ok
returns-in-Ok c = runs_found c.args.width c.args.count c.in-Ok._used c.args.bytes.now c.in-Ok.numbers.items c.in-Ok.ensures.found.1

pub returns-in-Err : goal.returns-in-Err
returns-in-Err c =
    subst (λ fault. RefusesMeaning fault (HoldRuns c.args.width c.args.count c.args.bytes.now)) (sym c.fault_of.ensures)
    (refused_by {X = Vec ℕ Global × ℕ} (λ x. (x.0.items, x.1)) c.in-Err.fault (HoldRuns c.args.width c.args.count c.args.bytes.now) (λ numbers held. ((numbers, length held.runs), c.in-Err.ensures.only c.requires numbers held.runs held.over held.first held.whole)))
