use Rattle.std.proofs.lemmas.Result.{err_from_is_err_and}
use Rattle.dk_pqread.proofs.RunReading.{levels_found, levels_refused}
use Rattle.dk_pqread.proofs.runs.read_levels.Goals as goal

pub returns-in_err-read_runs : goal.returns-in_err-read_runs
returns-in_err-read_runs c =
    let p = err_from_is_err_and c.from_residual.result c.from_residual.ensures.1 in
    rw (p.1, p.2)
    (levels_refused c.args.greatest c.width.result c.args.count c.args.bytes.now c.in_err-read_runs.field-0.0 c.if-greatest-eq0.false c.width.ensures.room c.in_err-read_runs.ensures)

pub returns : goal.returns
returns c = levels_found c.args.greatest c.width.result c.args.count c.args.bytes.now c.in_ok-read_runs.field-0.items c.if-greatest-eq0.false c.width.ensures.room c.in_ok-read_runs.ensures
