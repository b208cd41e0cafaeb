-- Which places a listing shows an object at, and the names under which versions stand ratified.
use Rattle.std.specs.Prelude.{ℕ, ◌==◌, ◌&&◌, Bool, true, false, Option, Some, None, List, [], ◌∷◌, ◌++◌, map, if◌then◌else◌}
use Rattle.std.specs.List.{list_any, filter_map}
use Rattle.dk_store.specs.Views.{ratification}
use Rattle.dk_paths.specs.declared.log_name.LogName.{LogName}
use Rattle.dk_paths.specs.declared.log_name.LogName.TheVariants as names
use Rattle.dk_paths.specs.Places.{Place, Commit_at, Classic, Part, V2, Compacted, Hint, Sidecar, Staged, Other}
use Rattle.dk_listing.specs.declared.catalogued.Catalogued.{Catalogued}
use Rattle.dk_listing.specs.declared.named.Named.{Named}
use Rattle.dk_listing.specs.declared.named.Staged as entries

-- whether a name of the log's folder is that of the place
abbrev pub is_at : Place → LogName → Bool
is_at (Commit_at version) (names.Commit v) = v == version
is_at (Classic version) (names.Classic v) = v == version
is_at (Part version part parts) (names.Part v o p) = v == version && (o == part && p == parts)
is_at (V2 version id true) (names.V2Json v i) = v == version && i == id
is_at (V2 version id false) (names.V2Parquet v i) = v == version && i == id
is_at (Compacted first last) (names.Compacted x y) = x == first && y == last
is_at Hint names.Hint = true
is_at _ _ = false

abbrev pub lists_in_log : List Named → Place → Bool
lists_in_log log place = list_any (λ named. is_at place named.name) log

-- whether a commit of the version is staged under the UUID
abbrev pub lists_staged : List entries.Staged → ℕ → ℕ → Bool
lists_staged staged version id = list_any (λ s. s.version == version && s.id == id) staged

-- whether an object at the place is listed
abbrev pub lists : Catalogued → Place → Bool
lists listing (Staged version id) = lists_staged listing.staged.items version id
lists listing (Sidecar name) = false
lists listing (Other path) = false
lists listing place = lists_in_log listing.log.items place

-- the place that a name of the log's folder names
abbrev pub named_place : LogName → Option Place
named_place (names.Commit version) = Some (Commit_at version)
named_place (names.Classic version) = Some (Classic version)
named_place (names.Part version part parts) = Some (Part version part parts)
named_place (names.V2Json version id) = Some (V2 version id true)
named_place (names.V2Parquet version id) = Some (V2 version id false)
named_place (names.Compacted first last) = Some (Compacted first last)
named_place names.Hint = Some Hint
named_place names.Other = None

-- the places at which an object is listed, in the log's folder and in that of staged commits
abbrev pub listed_places : Catalogued → List Place
listed_places listing = filter_map (λ named. named_place named.name) listing.log.items ++ map (λ s. Staged s.version s.id) listing.staged.items

-- the name under which a version stands ratified, by the first ratification of it
abbrev pub name_at : List (ℕ × List ℕ) → ℕ → Option (List ℕ)
name_at [] version = None
name_at (r ∷ rs) version = if r.0 == version then Some r.1 else name_at rs version

abbrev pub ratified_name : Catalogued → ℕ → Option (List ℕ)
ratified_name listing version = name_at (map ratification listing.ratified.items) version
