-- The times of versions (Delta Lake's PROTOCOL.md, "In-Commit Timestamps"), by what is known of the log.
use Rattle.std.specs.Prelude.{ℕ, ℤ, ◌==◌, not, Option, Some, None, List, [], ◌∷◌, map, filter, option_and_then, unwrap_or, if◌then◌else◌}
use Rattle.std.specs.Option.{option_or}
use Rattle.dk_model.specs.declared.state.TableState.{TableState}
use Rattle.dk_paths.specs.Places.{Place, Commit_at, Staged}
use Rattle.dk_lawful.specs.Segments.{id_named}
use Rattle.dk_times.specs.Next.{greatest_timestamp, timestamp_after}
use Rattle.dk_times.specs.Enablement.{least_timestamp, says_time}
use Rattle.dk_times.specs.Versions.{listed_versions}

-- what is known of a log: the places at which an object is listed, the standing ratifications by version, when a listed object was last
-- changed, in milliseconds since 1970-01-01T00:00:00Z, what the commit of a version says of its own time, and the latest state
pub record Known : Type 0 where
  pub places : List Place
  pub ratified : List (ℕ × List ℕ)
  pub stamp : Place → Option ℤ
  pub said : ℕ → Option ℤ
  pub state : TableState

-- ---- by stamps

abbrev pub name_ratified : List (ℕ × List ℕ) → ℕ → Option (List ℕ)
name_ratified [] version = None
name_ratified (r ∷ ratified) version = if r.0 == version then Some r.1 else name_ratified ratified version

-- that of the ratified staged commit
abbrev pub staged_stamp : Known → ℕ → Option ℤ
staged_stamp known version = option_and_then (λ id. known.stamp (Staged version id)) (option_and_then (id_named version) (name_ratified known.ratified version))

-- that of the published commit, else of the staged one, else the least
abbrev pub listed_stamp : Known → ℕ → ℤ
listed_stamp known version = unwrap_or (option_or (known.stamp (Commit_at version)) (staged_stamp known version)) least_timestamp

-- raised to one above the time of the version before, but never above the greatest
abbrev pub raised : Option ℤ → ℤ → ℤ
raised before stamp = unwrap_or (timestamp_after stamp before) greatest_timestamp

abbrev pub raised_from : Option ℤ → List ℤ → List ℤ
raised_from before [] = []
raised_from before (stamp ∷ stamps) = raised before stamp ∷ raised_from (Some (raised before stamp)) stamps

-- ---- the versions with their times, oldest first

abbrev pub Dated : Type 0
Dated = ℕ × ℤ

-- so many versions as there are times
abbrev pub dated : List ℕ → List ℤ → List Dated
dated [] times = []
dated (version ∷ versions) [] = []
dated (version ∷ versions) (time ∷ times) = (version, time) ∷ dated versions times

-- the listed versions whose commit doesn't say its time come first
abbrev pub lower_versions : Known → List ℕ
lower_versions known = filter (λ version. not (says_time known.state version)) (listed_versions known.places known.ratified)

abbrev pub upper_versions : Known → List ℕ
upper_versions known = filter (says_time known.state) (listed_versions known.places known.ratified)

abbrev pub lower : Known → List Dated
lower known = dated (lower_versions known) (raised_from None (map (listed_stamp known) (lower_versions known)))

-- ---- the time of a version

abbrev pub time_among : ℕ → List Dated → Option ℤ
time_among version [] = None
time_among version (d ∷ ds) = if d.0 == version then Some d.1 else time_among version ds

-- what its commit says, from the version on from which commits say it, and none where it doesn't; else by stamps
abbrev pub time_of_version : Known → ℕ → Option ℤ
time_of_version known version = if says_time known.state version then known.said version else time_among version (lower known)
