-- The version at a moment (Delta Lake's PROTOCOL.md, "In-Commit Timestamps"): the newest whose time isn't later.
use Rattle.std.specs.Prelude.{◌≡◌, ℕ, ◌+◌, ◌*◌, ◌^◌, ◌≤◌, ℤ, ◌≤ℤ◌, ◌<ℤ◌, int_le, Option, Some, None, List, [], ◌∷◌, ◌++◌, if◌then◌else◌}
use Rattle.std.specs.List.{filter_map}
use Rattle.dk_lawful.specs.Segments.{greatest}
use Rattle.dk_times.specs.Versions.{listed_versions}
use Rattle.dk_times.specs.Times.{Known, Dated, time_of_version}

-- ---- by a look at each listed version

abbrev pub if_not_later : ℤ → ℕ → Option ℤ → Option ℕ
if_not_later moment version None = None
if_not_later moment version (Some time) = if int_le time moment then Some version else None

-- the greatest listed version whose time isn't later than the moment
abbrev pub version_at : Known → ℤ → Option ℕ
version_at known moment = greatest (filter_map (λ version. if_not_later moment version (time_of_version known version)) (listed_versions known.places known.ratified))

-- ---- by a search in a region, whatever its times are

-- the next version is of a later time, or there is none
abbrev pub IsLaterNext : ℤ → List Dated → Type 0
IsLaterNext moment [] = Unit {0}
IsLaterNext moment (d ∷ ds) = moment <ℤ d.1

-- a version of a region whose time isn't later than the moment, behind which none that isn't later follows at once
pub record IsLastNotLater (moment : ℤ) (region : List Dated) (found : Dated) : Type 0 where
  pub before : List Dated
  pub behind : List Dated
  pub splits : region ≡ before ++ found ∷ behind
  pub not_later : found.1 ≤ℤ moment
  pub next : IsLaterNext moment behind

-- ---- the reads of commits

-- so many reads, of so many listed versions: as many at most as the number of versions has binary digits
abbrev pub AreFewReads : ℕ → ℕ → Type 0
AreFewReads reads versions = 2 ^ reads ≤ 2 * versions + 1
