use Rattle.std.proofs.Common.{map, subst, w32}
use Rattle.std.proofs.lemmas.Int.{to_z-of_z}
use Rattle.std.proofs.lemmas.Result.{err_from_is_err_and}
use Rattle.dk_pages.specs.Split.{parts_of}
use Rattle.dk_pqmodel.specs.ColumnView.{column_of, value_of}
use Rattle.dk_pqread.specs.ColumnView.{column_at}
use Rattle.dk_pqread.specs.Meanings.{RefusesMeaning, levels_on_page}
use Rattle.dk_pqread.proofs.PageReading.{dictionary_of}
use Rattle.dk_pqread.proofs.PageTriples.{values_refused, triples_found}
use Rattle.dk_pqread.proofs.ValueReading.{AreValuesOf}
use Rattle.dk_pqread.proofs.page.add_parts.Goals as goal

pub returns-in_err-values : goal.returns-in_err-values
returns-in_err-values c =
    let p = err_from_is_err_and c.from_residual-in_err-values.result c.from_residual-in_err-values.ensures.1 in
    rw (p.1, p.2)
    (values_refused (column_at c.args.column.now) (dictionary_of c.args.dictionary) c.args.code c.args.count (parts_of c.args.parts.now) (levels_on_page c.args.count c.in_ok-definitions.definitions)
    c.in_ok-definitions.ensures (column_of c.args.triples.now) c.in_err-values.field-0.0
    (subst (λ n. RefusesMeaning c.in_err-values.field-0.0 (AreValuesOf (column_at c.args.column.now) (dictionary_of c.args.dictionary) c.args.code n c.args.parts.now.values.now)) c.count_full-full.ensures
    (subst (λ code. RefusesMeaning c.in_err-values.field-0.0 (AreValuesOf (column_at c.args.column.now) (dictionary_of c.args.dictionary) code c.count_full-full.result c.args.parts.now.values.now))
    (to_z-of_z w32 c.args.code c.ranges.code) c.in_err-values.ensures)))

pub returns : goal.returns
returns c =
    triples_found (column_at c.args.column.now) (dictionary_of c.args.dictionary) c.args.code c.args.count (parts_of c.args.parts.now) (levels_on_page c.args.count c.in_ok-definitions.definitions)
    c.in_ok-definitions.ensures (levels_on_page c.args.count c.in_ok-repetitions.repetitions) c.in_ok-repetitions.ensures (map value_of c.in_ok-values.values.items)
    (subst (λ n. AreValuesOf (column_at c.args.column.now) (dictionary_of c.args.dictionary) c.args.code n c.args.parts.now.values.now (map value_of c.in_ok-values.values.items)) c.count_full-full.ensures
    (subst (λ code. AreValuesOf (column_at c.args.column.now) (dictionary_of c.args.dictionary) code c.count_full-full.result c.args.parts.now.values.now (map value_of c.in_ok-values.values.items))
    (to_z-of_z w32 c.args.code c.ranges.code) c.in_ok-values.ensures))
    _ c.add_triples.result (column_of c.args.triples.now) c.add_triples.ensures
