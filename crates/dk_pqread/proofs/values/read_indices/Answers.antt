use Rattle.std.proofs.Common.{map, sym, subst}
use Rattle.std.proofs.lemmas.Result.{err_from_is_err_and}
use Rattle.dk_pqmodel.specs.ColumnView.{value_of}
use Rattle.dk_pqread.specs.LeafView.{leaf_of}
use Rattle.dk_pqread.specs.Meanings.{HoldRuns}
use Rattle.dk_pqread.proofs.FlagKinds.{no_flag}
use Rattle.dk_pqread.proofs.ValueReading.{values_in, indices_refused, indices_found}
use Rattle.dk_pqread.proofs.values.read_indices.Goals as goal

pub returns-in_err-indices : goal.returns-in_err-indices
returns-in_err-indices c =
    let p = err_from_is_err_and c.from_residual.result c.from_residual.ensures.1 in
    rw (p.1, p.2)
    (rw c.in-Some.is
    (indices_refused (leaf_of c.args.kind) (no_flag c.args.kind c.if-eq.ensures) (map value_of c.in-Some.entries.now) c.args.bytes.now c.args.count c.in-Some-split_first.width.now
    c.in-Some-split_first.runs.now c.in-Some-split_first.ensures.cases.0 c.in_err-indices.field-0.0 c.in_err-indices.ensures))

pub returns : goal.returns
returns c =
    let held = subst (λ indices. HoldRuns c.in-Some-split_first.width.now c.args.count c.in-Some-split_first.runs.now indices) (sym c.deref.ensures.value) c.in_ok-indices.ensures in
    rw c.in-Some.is
    (indices_found (leaf_of c.args.kind) (no_flag c.args.kind c.if-eq.ensures) (map value_of c.in-Some.entries.now) c.args.bytes.now c.args.count c.in-Some-split_first.width.now
    c.in-Some-split_first.runs.now c.in-Some-split_first.ensures.cases.0 c.deref.result.now held values_in c.pick.result c.if-width-gt32.false c.pick.ensures)
