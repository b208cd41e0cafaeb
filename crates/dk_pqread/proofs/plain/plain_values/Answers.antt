use Rattle.std.proofs.Common.{◌∷◌, [], map, ap, ◌∙◌, arith}
use Rattle.std.proofs.lemmas.List.{map-append}
use Rattle.std.proofs.lemmas.Result.{err_from_is_err_and}
use Rattle.dk_pqmodel.specs.ColumnView.{value_of}
use Rattle.dk_pqread.specs.LeafView.{leaf_of}
use Rattle.dk_pqread.proofs.PlainSteps.{value_missing, value_taken}
use Rattle.dk_pqread.proofs.plain.plain_values.Goals as goal

pub returns-in_err-value : goal.returns-in_err-value
returns-in_err-value c =
    let p = err_from_is_err_and c.from_residual-in_err-value.result c.from_residual-in_err-value.ensures.1 in
    rw (p.1, p.2)
    (value_missing (leaf_of c.args.kind) c.args.count c.loop.counter (map value_of c.loop.values.items) c.loop.rest.now _ (omega arith) c.loop.invariant c.in_err-value.field-0.0 c.in_err-value.ensures)

pub loop-preserved : goal.loop-preserved
loop-preserved c =
    value_taken (leaf_of c.args.kind) c.args.count c.loop.counter (map value_of c.loop.values.items) c.loop.rest.now _ (omega arith) c.loop.invariant
    (value_of c.in_ok-value.value) c.in_ok-value.behind.now (map value_of c.push.new.self.items) c.in_ok-value.ensures
    (ap (map value_of) c.in_ok-push.ensures.items ∙ map-append value_of c.loop.values.items (c.in_ok-value.value ∷ []))
