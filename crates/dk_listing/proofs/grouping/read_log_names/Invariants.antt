use Rattle.std.proofs.Common.{◌≡◌, ◌<◌, ◌^◌, ◌++◌, All, map, true}
use Rattle.std.specs.Vec.Iter.{into_iter_items}
use Rattle.dk_store.specs.Views.{listed}
use Rattle.dk_listing.specs.Entries.{in_log, named_entry}
use Rattle.dk_listing.specs.Newest.{is_rising, version_named}
use Rattle.dk_listing.proofs.grouping.read_log_names.Given as goal

-- what was found, then what is left, is the whole
abbrev pub invariant-loop-entry : goal.invariant-loop-entry
invariant-loop-entry l = record {
  named : map named_entry l.found.items ++ map in_log (map listed (into_iter_items l.entry-iterator)) ≡ map in_log (map listed l.fn.entries.items);
  small : All (λ named. version_named named.name < 2 ^ 63) l.found.items;
  rising : All (λ named. is_rising named.name ≡ true) l.found.items;
}
