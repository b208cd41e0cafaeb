use Rattle.std.proofs.Common.{◌≡◌, ◌++◌, map}
use Rattle.std.specs.List.{filter_map}
use Rattle.std.specs.Vec.Iter.{into_iter_items}
use Rattle.dk_store.specs.Views.{listed}
use Rattle.dk_listing.specs.Entries.{in_staged, staged_entry}
use Rattle.dk_listing.proofs.grouping.read_staged_names.Given as goal

-- what was found, then what is left, is the whole
abbrev pub invariant-loop-entry : goal.invariant-loop-entry
invariant-loop-entry l = map staged_entry l.found.items ++ filter_map in_staged (map listed (into_iter_items l.entry-iterator)) ≡ filter_map in_staged (map listed l.fn.entries.items)
