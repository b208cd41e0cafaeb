use Rattle.std.proofs.Common.{◌≡◌, ◌++◌, map}
use Rattle.std.specs.List.{filter_map}
use Rattle.dk_store.specs.Listing.{listed_in}
use Rattle.dk_store.specs.Views.{listed}
use Rattle.dk_store.specs.Memory.{placed}
use Rattle.dk_store.proofs.listing.listed_objects.Given as goal

abbrev pub invariant-loop-path : goal.invariant-loop-path
invariant-loop-path l = map listed l.found.items ++ filter_map (listed_in l.folder l.from) (map placed l.path-iterator) ≡ filter_map (listed_in l.folder l.from) (map placed l.objects.entries)
