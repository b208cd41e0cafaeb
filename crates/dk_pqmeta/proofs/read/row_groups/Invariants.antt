use Rattle.std.proofs.Common.{◌≡◌, map}
use Rattle.std.specs.Vec.Iter.{into_iter_items}
use Rattle.dk_pqmodel.specs.Footer.{each_of, group_of}
use Rattle.dk_pqmeta.specs.Kept.{group_kept}
use Rattle.dk_pqmeta.specs.View.{each_behind, group_view}
use Rattle.dk_pqmeta.proofs.read.row_groups.Given as goal

abbrev pub invariant-loop-group : goal.invariant-loop-group
invariant-loop-group l =
    each_behind (map group_view l.row_groups.items) (each_of group_of (map group_kept (into_iter_items l.group-iterator))) ≡ each_of group_of (map group_kept l.fn.groups.items)
