-- The latest version that a listing has, and the latest one with a commit in the log.
use Rattle.std.specs.Prelude.{ℕ, Bool, Option, Some, List}
use Rattle.std.specs.List.{list_any}
use Rattle.dk_store.specs.Told.{Listed}
use Rattle.dk_paths.specs.declared.log_name.LogName.{LogName}
use Rattle.dk_listing.specs.declared.catalogued.Catalogued.{Catalogued}
use Rattle.dk_listing.specs.Newest.{later, newest_by, commit_version, complete_version, is_part, newest_commit, newest_checkpoint, newest_ratified}

-- the greatest version of a commit, a complete checkpoint or a ratification
abbrev pub latest_of : Catalogued → Option ℕ
latest_of listing = later (later (newest_commit listing.log.items) (newest_checkpoint listing.log.items)) (newest_ratified listing.ratified.items)

abbrev pub published_of : Catalogued → Option ℕ
published_of listing = newest_commit listing.log.items

-- ---- the same by content: entries with what their names mean, and ratifications

-- whether a part is among these, by version, number of parts and own number
abbrev pub part_among : List (LogName × Listed) → ℕ → ℕ → ℕ → Bool
part_among log version parts part = list_any (λ entry. is_part version parts part entry.0) log

abbrev pub latest_among : List (LogName × Listed) → List (ℕ × List ℕ) → Option ℕ
latest_among log ratified =
    later (later (newest_by (λ entry. commit_version entry.0) log) (newest_by (λ entry. complete_version (part_among log) entry.0) log)) (newest_by (λ r. Some r.0) ratified)
