use Rattle.std.proofs.Common.{◌<◌, sym, subst, arith}
use Rattle.std.proofs.lemmas.List.Elements.{All-from_get_or}
use Rattle.std.proofs.lemmas.Result.{err_from_is_err_and}
use Rattle.dk_pqread.specs.Meanings.{HoldRuns, RefusesMeaning, Finds}
use Rattle.dk_pqread.proofs.FlagKinds.{is_flag}
use Rattle.dk_pqread.proofs.ValueReading.{values_in, AreInRuns, flag_runs_refused, flag_runs_found}
use Rattle.dk_pqread.proofs.values.read_flag_runs.Goals as goal

pub returns-in_err-bits : goal.returns-in_err-bits
returns-in_err-bits c =
    let p = err_from_is_err_and c.from_residual.result c.from_residual.ensures.1 in
    rw (p.1, p.2)
    (subst (λ kind. RefusesMeaning c.in_err-bits.field-0.0 (AreInRuns kind c.args.count c.args.bytes.now)) (sym (is_flag c.args.kind c.if-ne.ensures))
    (flag_runs_refused c.args.bytes.now c.args.count c.in-Some.runs.now c.in-Some._over.now (sym c.in-Some.ensures) c.in_err-bits.field-0.0 c.in_err-bits.ensures))

pub returns : goal.returns
returns c =
    let held = subst (λ bits. HoldRuns 1 c.args.count c.in-Some.runs.now bits) (sym c.deref.ensures.value) c.in_ok-bits.ensures in
    subst (λ kind. Finds values_in c.flags_of.result (AreInRuns kind c.args.count c.args.bytes.now)) (sym (is_flag c.args.kind c.if-ne.ensures))
    (flag_runs_found c.args.bytes.now c.args.count c.in-Some.runs.now c.in-Some._over.now (sym c.in-Some.ensures) c.deref.result.now held values_in c.flags_of.result
    (All-from_get_or (λ byte. byte < 256) c.args.bytes.now 0 (λ i h. omega (arith, c.type_inv.bytes i))) c.flags_of.ensures)
