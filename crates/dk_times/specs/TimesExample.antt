-- Worked times of versions.
use Rattle.std.specs.Prelude.{◌≡◌, ℕ, ℤ, pos, ◌==◌, List, [], ◌∷◌, map, Option, Some, None, codes, if◌then◌else◌}
use Rattle.dk_model.specs.declared.action.Action.TheVariants as action
use Rattle.dk_model.specs.declared.state.TableState.{TableState}
use Rattle.dk_model.specs.State.{empty_state, step}
use Rattle.dk_paths.specs.Places.{Place, Commit_at}
use Rattle.dk_lawful.specs.Example.{a_table}
use Rattle.dk_lawful.specs.ManagedExample.{checkpointed}
use Rattle.dk_times.specs.Next.{greatest_timestamp}
use Rattle.dk_times.specs.Enablement.{least_timestamp, version_in, timestamp_in}
use Rattle.dk_times.specs.Versions.{listed_versions}
use Rattle.dk_times.specs.Times.{Known, raised_from, time_of_version}
use Rattle.dk_times.specs.TimesOfEvents.{known_of}
use Rattle.dk_times.specs.Moments.{version_at}

abbrev pub Setting : Type 0
Setting = List ℕ × Option (List ℕ)

-- a table with the feature, and these settings
abbrev pub timed : List Setting → TableState
timed settings =
    step (step empty_state (action.Protocol (record { min_reader = 1; min_writer = 7; reader_features = None; writer_features = Some (codes "inCommitTimestamp" ∷ []) }))) (a_table (codes "s") settings)

abbrev pub enabled : Setting
enabled = (codes "delta.enableInCommitTimestamps", Some (codes "true"))

abbrev pub commits : List ℕ → List Place
commits versions = map (λ version. Commit_at version) versions

abbrev pub times_of : Known → List ℕ → List (Option ℤ)
times_of known versions = map (time_of_version known) versions

abbrev pub versions_at : Known → List ℕ → List (Option ℕ)
versions_at known moments = map (λ moment. version_at known (pos moment)) moments

-- ---- commits say their times from version 0 on

abbrev pub from_start : Known
from_start = record {
  places = commits (0 ∷ 1 ∷ []);
  ratified = [];
  stamp = λ place. Some (pos 5000);
  said = λ version. if version == 0 then Some (pos 1000) else Some (pos 1001);
  state = timed (enabled ∷ []);
}

abbrev pub FromStart : Type 0
FromStart =
    (times_of from_start (0 ∷ 1 ∷ []) ≡ Some (pos 1000) ∷ Some (pos 1001) ∷ [])
    × (versions_at from_start (999 ∷ 1000 ∷ 1001 ∷ 9999999 ∷ []) ≡ None ∷ Some 0 ∷ Some 1 ∷ Some 1 ∷ [])

-- ---- they never do: a stamp that isn't later than the one before is raised

abbrev pub changed_at : Place → Option ℤ
changed_at (Commit_at version) = if version == 0 then Some (pos 5) else (if version == 1 then Some (pos 5) else (if version == 2 then Some (pos 3) else Some (pos 30)))
changed_at _ = None

abbrev pub by_stamps : Known
by_stamps = record {
  places = commits (0 ∷ 1 ∷ 2 ∷ 3 ∷ []);
  ratified = (4, codes "no staged commit") ∷ [];
  stamp = changed_at;
  said = λ version. Some (pos 1);
  state = timed [];
}

-- of version 4 nothing is listed
abbrev pub ByStamps : Type 0
ByStamps =
    (times_of by_stamps (0 ∷ 1 ∷ 2 ∷ 3 ∷ 4 ∷ []) ≡ Some (pos 5) ∷ Some (pos 6) ∷ Some (pos 7) ∷ Some (pos 30) ∷ Some (pos 31) ∷ [])
    × (versions_at by_stamps (4 ∷ 6 ∷ 29 ∷ 30 ∷ 31 ∷ []) ≡ None ∷ Some 1 ∷ Some 2 ∷ Some 3 ∷ Some 4 ∷ [])

-- ---- they do from version 3 on, which was made at 20, before the stamp of a version before it

abbrev pub since_3 : Known
since_3 = record {
  places = commits (0 ∷ 1 ∷ 2 ∷ 3 ∷ 4 ∷ []);
  ratified = [];
  stamp = changed_at;
  said = λ version. if version == 3 then Some (pos 20) else None;
  state = timed ((codes "delta.inCommitTimestampEnablementVersion", Some (codes "3")) ∷ (codes "delta.inCommitTimestampEnablementTimestamp", Some (codes "20")) ∷ enabled ∷ []);
}

-- a commit that says none has none
abbrev pub SinceAVersion : Type 0
SinceAVersion =
    (times_of since_3 (0 ∷ 1 ∷ 2 ∷ 3 ∷ 4 ∷ []) ≡ Some (pos 5) ∷ Some (pos 6) ∷ Some (pos 7) ∷ Some (pos 20) ∷ None ∷ []) × (versions_at since_3 (6 ∷ 19 ∷ 20 ∷ []) ≡ Some 1 ∷ Some 2 ∷ Some 3 ∷ [])

-- ---- by the events of a table that a catalogue manages

abbrev pub OfEvents : Type 0
OfEvents = times_of (known_of checkpointed) (0 ∷ 1 ∷ []) ≡ Some (pos 5) ∷ Some (pos 6) ∷ []

-- ---- what is listed before a gap has no time

abbrev pub BehindTheGap : Type 0
BehindTheGap = listed_versions (commits (0 ∷ 1 ∷ 3 ∷ 4 ∷ [])) ((5, codes "x") ∷ (4, codes "y") ∷ []) ≡ 3 ∷ 4 ∷ 5 ∷ []

-- ---- the ends of the ranges

abbrev pub AtTheEnds : Type 0
AtTheEnds =
    (raised_from None (greatest_timestamp ∷ pos 5 ∷ []) ≡ greatest_timestamp ∷ greatest_timestamp ∷ [])
    × (map timestamp_in (codes "-9223372036854775808" ∷ codes "9223372036854775808" ∷ codes "+5" ∷ codes "" ∷ []) ≡ Some least_timestamp ∷ None ∷ None ∷ None ∷ [])
    × (map version_in (codes "007" ∷ codes "9223372036854775807" ∷ codes "9223372036854775808" ∷ codes "-1" ∷ codes "two" ∷ []) ≡ Some 7 ∷ Some 9223372036854775807 ∷ None ∷ None ∷ None ∷ [])
