-- The listing that a store with these events answers, and what stands at the places of its log.
use Rattle.std.specs.Prelude.{ℕ, ◌≡◌, Bool, Option, List, [], map, is_some, codes}
use Rattle.std.specs.List.{filter_map}
use Rattle.dk_store.specs.Told.{Told}
use Rattle.dk_store.specs.Objects.{object}
use Rattle.dk_store.specs.Listing as folders
use Rattle.dk_store.specs.Standings.{ratified_from}
use Rattle.dk_store.specs.Views.{ratification}
use Rattle.dk_paths.specs.Places.{Place, place_path}
use Rattle.dk_listing.specs.declared.catalogued.Catalogued.{Catalogued}
use Rattle.dk_listing.specs.Entries.{in_log, in_staged, named_entry, staged_entry}
use Rattle.dk_listing.specs.Latest.{latest_among}

-- whether an object stands at the place
abbrev pub stands_at : List Told → Place → Bool
stands_at events place = is_some (object events (place_path place))

-- the log's folder, the folder of staged commits and the catalogue, each listed whole
pub record IsListingOf (events : List Told) (listing : Catalogued) : Type 0 where
  pub log : map named_entry listing.log.items ≡ map in_log (folders.listing events (codes "_delta_log") [])
  pub staged : map staged_entry listing.staged.items ≡ filter_map in_staged (folders.listing events (codes "_delta_log/_staged_commits") [])
  pub ratified : map ratification listing.ratified.items ≡ ratified_from events 0

-- the latest version that they show: the greatest of a listed commit, a listed complete checkpoint or a ratification that stands
abbrev pub latest : List Told → Option ℕ
latest events = latest_among (map in_log (folders.listing events (codes "_delta_log") [])) (ratified_from events 0)
