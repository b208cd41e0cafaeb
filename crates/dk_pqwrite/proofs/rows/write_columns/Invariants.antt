use Rattle.std.proofs.Common.{◌≡◌, length, map}
use Rattle.std.specs.Vec.Iter.{into_iter_items, into_iter_len}
use Rattle.dk_pqwrite.specs.SchemaLeaves.{leaf_view}
use Rattle.dk_pqwrite.proofs.WholeColumns.{GoesOn}
use Rattle.dk_pqwrite.proofs.rows.write_columns.Given as goal

abbrev pub invariant-loop-triples : goal.invariant-loop-triples
invariant-loop-triples l =
    GoesOn l.columns l.triples-index (map leaf_view l.fn.leaves.items) (map leaf_view (into_iter_items l.leaves)) l.chunks.items l.fn.out.items l.out.items
    × (length (into_iter_items l.leaves) ≡ into_iter_len l.leaves)
