use Rattle.std.proofs.Common.{◌≡◌, [], map}
use Rattle.std.specs.Vec.Iter.{into_iter_items}
use Rattle.dk_pqmeta.specs.Kept.{chunk_kept}
use Rattle.dk_pqmeta.specs.View.{column_view, columns_behind}
use Rattle.dk_pqmeta.proofs.group.columns_by_path.Given as goal

abbrev pub invariant-loop-chunk : goal.invariant-loop-chunk
invariant-loop-chunk l = columns_behind (map column_view l.columns.entries) (map chunk_kept (into_iter_items l.chunk-iterator)) ≡ columns_behind [] (map chunk_kept l.fn.chunks.items)
