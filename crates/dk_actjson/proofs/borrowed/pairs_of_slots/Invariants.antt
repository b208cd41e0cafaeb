use Rattle.std.proofs.Common.{◌≡◌, ◌++◌, map, nat_cmp}
use Rattle.std.specs.Cmp.Lexicographic.{slice_cmp}
use Rattle.std.specs.List.Sorted.{IsStrictlySortedBy}
use Rattle.std.specs.FinMap.{entries}
use Rattle.dk_actjson.specs.Slots.{all_slots}
use Rattle.dk_actjson.proofs.Turns.{before}
use Rattle.dk_actjson.proofs.borrowed.pairs_of_slots.Given as goal

-- the pairs so far, and those of the slots left, in the order of their keys
abbrev pub invariant-slots : goal.invariant-slots
invariant-slots l = record {
  meant : all_slots (entries l.fn.slots) ≡ before l.list.items (all_slots l.key-iterator);
  rising : IsStrictlySortedBy (slice_cmp nat_cmp) (map (λ p. p.0) l.list.items ++ map (λ e. e.0) l.key-iterator);
}
