use Rattle.std.proofs.Common.{arith, ◌≡◌, ◌∙◌, ap, sym, map}
use Rattle.std.specs.List.{filter_map}
use Rattle.std.proofs.lemmas.Grind.{common_steps}
use Rattle.dk_store.specs.Listing.{listed_in}
use Rattle.dk_store.specs.Views.{listed}
use Rattle.dk_store.specs.Memory.{placed}
use Rattle.dk_store.proofs.Maps.{entries-placed_map}
use Rattle.dk_store.proofs.listing.listed_objects.Goals as goal

-- the entries of the map, whose keys rise, are those of the finite map
pub returns : goal.returns
returns c =
    let shown : map listed c.loop-path.found.items ≡ filter_map (listed_in c.args.folder.now c.args.from.now) (map placed c.args.objects.now.entries) = grind (arith, common_steps) in
    shown ∙ ap (filter_map (listed_in c.args.folder.now c.args.from.now)) (sym (entries-placed_map c.args.objects.now.entries c.into_iter-path-iterator.ensures.into_iter_gives.5))
