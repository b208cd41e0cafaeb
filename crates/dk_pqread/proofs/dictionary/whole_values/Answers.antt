use Rattle.std.proofs.Common.{rules, ◌<◌, map, arith}
use Rattle.std.proofs.lemmas.List.Elements.{All-from_get_or}
use Rattle.std.proofs.lemmas.Result.{err_from_is_err_and}
use Rattle.dk_pqmodel.specs.ColumnView.{value_of}
use Rattle.dk_pqread.specs.LeafView.{leaf_of}
use Rattle.dk_pqread.proofs.DictionaryPages.{whole_refused, whole_stand, more_behind}
use Rattle.dk_pqread.proofs.dictionary.whole_values.Goals as goal

pub returns-in_err-values : goal.returns-in_err-values
returns-in_err-values c =
    let p = err_from_is_err_and c.from_residual.result c.from_residual.ensures.1 in
    rw (p.1, p.2) (whole_refused (leaf_of c.args.kind) c.args.count c.args.bytes.now c.in_err-values.field-0.0 c.in_err-values.ensures)

pub returns-then-is_empty : goal.returns-then-is_empty
returns-then-is_empty c =
    whole_stand (leaf_of c.args.kind) c.args.count c.args.bytes.now (map value_of c.in_ok-values.values.items) c.in_ok-values.rest.now c.in_ok-values.ensures
    (All-from_get_or (λ byte. byte < 256) c.args.bytes.now 0 (λ i h. omega (arith, c.type_inv.bytes i))) (search rules)

pub returns-else-is_empty : goal.returns-else-is_empty
returns-else-is_empty c = more_behind (leaf_of c.args.kind) c.args.count c.args.bytes.now (map value_of c.in_ok-values.values.items) c.in_ok-values.rest.now c.in_ok-values.ensures (search rules)
