use Rattle.std.proofs.Common.{◌∷◌, [], map, ap, ◌∙◌}
use Rattle.std.proofs.lemmas.List.{map-append}
use Rattle.std.proofs.lemmas.Result.{err_from_is_err_and}
use Rattle.std.specs.Vec.Iter.{into_iter_items}
use Rattle.dk_pqmodel.specs.ColumnView.{column_of, triple_of, value_of}
use Rattle.dk_pqread.specs.Meanings.{levels_on_page}
use Rattle.dk_pqread.proofs.ZipSteps.{triple_fails, triple_more}
use Rattle.dk_pqread.proofs.zip.add_triples.Goals as goal

pub returns-in_err-triple : goal.returns-in_err-triple
returns-in_err-triple c =
    let p = err_from_is_err_and c.from_residual-in_err-triple.result c.from_residual-in_err-triple.ensures.1 in
    rw (p.1, p.2)
    (rw c.reserve.ensures.items at
    (triple_fails c.args.column.now.rep c.args.column.now.def (levels_on_page c.args.count c.args.repetitions.now) (levels_on_page c.args.count c.args.definitions.now) c.loop-place.place
    (column_of c.loop-place.triples) (map value_of (into_iter_items c.loop-place.values)) _ c.loop-place.invariant c.level-repetition.result c.level-definition.result c.level-repetition.ensures
    c.level-definition.ensures c.in_err-triple.field-0.0 c.in_err-triple.ensures))

pub loop-place-preserved : goal.loop-place-preserved
loop-place-preserved c =
    triple_more c.args.column.now.rep c.args.column.now.def (levels_on_page c.args.count c.args.repetitions.now) (levels_on_page c.args.count c.args.definitions.now) c.loop-place.place
    (column_of c.loop-place.triples) (map value_of (into_iter_items c.loop-place.values)) _ c.loop-place.invariant c.level-repetition.result c.level-definition.result c.level-repetition.ensures
    c.level-definition.ensures (triple_of c.in_ok-triple.field-0) (map value_of (into_iter_items c.triple.new.values)) (column_of c.push.new.self) c.in_ok-triple.ensures
    (ap (map triple_of) c.in_ok-push.ensures.items ∙ map-append triple_of c.loop-place.triples.items (c.in_ok-triple.field-0 ∷ []))
