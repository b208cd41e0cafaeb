use Rattle.std.proofs.Common.{map, take}
use Rattle.dk_levels.specs.Borrowed.{borrowed_triple}
use Rattle.dk_pqwrite.specs.Adding.{AddsBytes}
use Rattle.dk_pqwrite.specs.PlainValues.{ArePlain, plain_size}
use Rattle.dk_pqwrite.specs.WrittenColumn.{leaf_of_kind, values_of_column}
use Rattle.dk_pqwrite.proofs.values.add_values.Given as goal

abbrev pub invariant-loop-triple : goal.invariant-loop-triple
invariant-loop-triple l =
    AddsBytes (ArePlain (leaf_of_kind l.kind) (values_of_column (map borrowed_triple (take l.triple-index l.triples)))) (plain_size (values_of_column (map borrowed_triple (take l.triple-index l.triples)))) l.fn.out.items l.out.items
