use Rattle.std.proofs.Common.{◌≡◌, []}
use Rattle.std.specs.Vec.Iter.{into_iter_items}
use Rattle.dk_hint.specs.Canonical.{sorted_onto}
use Rattle.dk_hint.specs.Sorted.{key_texts}
use Rattle.dk_hint.proofs.sorting.sorted.Given as goal

-- the texts that are left, put to those that were, are all
abbrev pub invariant-list : goal.invariant-list
invariant-list l = sorted_onto (key_texts l.set.keys) (into_iter_items l.text-iterator) ≡ sorted_onto [] l.fn.list.items
