use Rattle.std.proofs.Common.{◌≡◌, drop, map}
use Rattle.std.specs.Vec.Iter.{into_iter_items}
use Rattle.dk_pqmodel.specs.ColumnView.{column_of, value_of}
use Rattle.dk_pqread.specs.Meanings.{levels_on_page, triples_then, zipped}
use Rattle.dk_pqread.proofs.zip.add_triples.Given as goal

abbrev pub invariant-loop-place : goal.invariant-loop-place
invariant-loop-place l =
    triples_then (column_of l.triples) (zipped l.column.rep l.column.def (drop l.place (levels_on_page l.count l.repetitions)) (drop l.place (levels_on_page l.count l.definitions)) (map value_of (into_iter_items l.values)))
    ≡ triples_then (column_of l.initial.triples) (zipped l.column.rep l.column.def (levels_on_page l.count l.repetitions) (levels_on_page l.count l.definitions) (map value_of l.fn.values.items))
