-- The latest version of a table in plain words, by the events of the store (Delta Lake's PROTOCOL.md, "Delta Log Entries", "Checkpoints",
-- "Catalog-managed tables").
use Rattle.std.specs.Prelude.{ℕ, ◌≡◌, ◌<◌, ◌≤◌, ◌^◌, ◌==◌, ◌||◌, Bool, true, false, List, [], Option, Some, None, map, is_some, codes}
use Rattle.std.specs.List.{list_any}
use Rattle.dk_store.specs.Told.{Told, Listed}
use Rattle.dk_store.specs.Listing.{listing}
use Rattle.dk_store.specs.Standings.{standing}
use Rattle.dk_paths.specs.declared.log_name.LogName.{LogName}
use Rattle.dk_paths.specs.Places.{Commit_at}
use Rattle.dk_listing.specs.Entries.{in_log}
use Rattle.dk_listing.specs.declared.catalogued.Catalogued.{Catalogued}
use Rattle.dk_listing.specs.Latest.{latest_of, part_among}
use Rattle.dk_listing.specs.Newest.{complete_version}
use Rattle.dk_listing.specs.OfEvents.{IsListingOf, stands_at, latest}

-- whether this is the version, if there is one
abbrev pub is_of : Option ℕ → ℕ → Bool
is_of None version = false
is_of (Some found) version = found == version

-- the names of the log's folder
abbrev pub log_names : List Told → List (LogName × Listed)
log_names events = map in_log (listing events (codes "_delta_log") [])

-- whether a complete checkpoint of the version is among them
abbrev pub lists_complete : List (LogName × Listed) → ℕ → Bool
lists_complete log version = list_any (λ entry. is_of (complete_version (part_among log) entry.0) version) log

-- whether the version is published, has a complete checkpoint in the log's folder, or stands ratified
abbrev pub is_version : List Told → ℕ → Bool
is_version events version = (stands_at events (Commit_at version) || lists_complete (log_names events) version) || is_some (standing events version)

-- it is the greatest of these; where it is none, there is none
abbrev pub IsLatest : List Told → Option ℕ → Type 0
IsLatest events None = (version : ℕ) → version < 2 ^ 63 → is_version events version ≡ false
IsLatest events (Some last) = (is_version events last ≡ true) × ((version : ℕ) → version < 2 ^ 63 → is_version events version ≡ true → version ≤ last)

abbrev pub LatestIsGreatest : Type 0
LatestIsGreatest = (events : List Told) → IsLatest events (latest events)

-- what a listing of these events says is the latest version is the greatest one
abbrev pub ListedIsGreatest : Type 0
ListedIsGreatest = (events : List Told) (listing : Catalogued) → IsListingOf events listing → IsLatest events (latest_of listing)
