use Rattle.std.proofs.Common.{◌≡◌, drop, map, slice_get}
use Rattle.dk_pqmodel.specs.ColumnView.{value_of}
use Rattle.dk_pqmodel.specs.Footer.{each_of}
use Rattle.dk_pqread.proofs.Eaches.{each_then}
use Rattle.dk_pqread.proofs.values.pick.Given as goal

abbrev pub invariant-loop-index : goal.invariant-loop-index
invariant-loop-index l =
    each_then (map value_of l.values.items) (each_of (λ index. slice_get (map value_of l.entries) index) (drop l.index-index l.indices))
    ≡ each_of (λ index. slice_get (map value_of l.entries) index) l.indices
