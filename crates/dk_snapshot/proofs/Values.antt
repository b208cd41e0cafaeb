-- The laws of what opens, of the value that the commits alone have; those of the relation follow from them.
use Rattle.std.specs.Prelude.{ℕ, ℤ, ◌≡◌, ◌<◌, ◌≤◌, ◌+◌, List, Option, Some, Ok, Err}
use Rattle.dk_store.specs.Told.{Told}
use Rattle.dk_store.specs.Standings.{standing}
use Rattle.dk_paths.specs.Names.{commit_path}
use Rattle.dk_lawful.specs.declared.segment.Choice.{Choice}
use Rattle.dk_lawful.specs.History.{next_version, table_at}
use Rattle.dk_lawful.specs.Lawful.{Lawful}
use Rattle.dk_lawful.specs.Segments.{HasAllCommits, commit_gap}
use Rattle.dk_engine.specs.declared.limits.Limits.{Limits}
use Rattle.dk_engine.specs.declared.refusal.Refusal.TheVariants.{Missing, NoVersion}
use Rattle.dk_listing.specs.OfEvents.{stands_at, latest}
use Rattle.dk_snapshot.specs.declared.table.Snapshot.{Snapshot}
use Rattle.dk_snapshot.specs.LawfulOpens.{AsksVersion, IsKeptBy, segment_by, HasCut, AnswersVersion, AnswersHistory}
use Rattle.dk_snapshot.specs.Opening.{opened}

abbrev pub OpenedIsKept : Type 0
OpenedIsKept = (events : List Told) (limits : Limits) (at : Option ℕ) (choice : Choice) (now : ℤ) (snapshot : Snapshot) → opened events limits at choice now ≡ Ok snapshot → HasAllCommits (stands_at events) (standing events) snapshot.version choice

abbrev pub NotKeptIsMissing : Type 0
NotKeptIsMissing = (events : List Told) (limits : Limits) (version last : ℕ) (choice : Choice) (now : ℤ) (path : List ℕ) → latest events ≡ Some last → version ≤ last
    → commit_gap (stands_at events) (standing events) version choice ≡ Some path
    → opened events limits (Some version) choice now ≡ Err (Missing path)

abbrev pub OpenedIsAsked : Type 0
OpenedIsAsked = (events : List Told) (horizon : ℤ) (limits : Limits) (at : Option ℕ) (choice : Choice) (now : ℤ) (snapshot : Snapshot) → Lawful events horizon
    → opened events limits at choice now ≡ Ok snapshot → AsksVersion events at snapshot.version × IsKeptBy events snapshot.version choice

abbrev pub OpenedIsTable : Type 0
OpenedIsTable = (events : List Told) (horizon : ℤ) (limits : Limits) (at : Option ℕ) (choice : Choice) (now : ℤ) (snapshot : Snapshot) → Lawful events horizon
    → opened events limits at choice now ≡ Ok snapshot → snapshot.state ≡ table_at events snapshot.version

abbrev pub OpenedHasCut : Type 0
OpenedHasCut = (events : List Told) (horizon : ℤ) (limits : Limits) (at : Option ℕ) (choice : Choice) (now : ℤ) (snapshot : Snapshot) → Lawful events horizon
    → opened events limits at choice now ≡ Ok snapshot → HasCut snapshot.state.metadata now snapshot.cut

abbrev pub KeptIsAnswered : Type 0
KeptIsAnswered = (events : List Told) (horizon : ℤ) (limits : Limits) (at : Option ℕ) (choice : Choice) (now : ℤ) (version : ℕ) → Lawful events horizon → AsksVersion events at version
    → IsKeptBy events version choice → AnswersVersion events horizon limits now version (segment_by events version choice) (opened events limits at choice now)

abbrev pub GapIsMissing : Type 0
GapIsMissing = (events : List Told) (horizon : ℤ) (limits : Limits) (at : Option ℕ) (choice : Choice) (now : ℤ) (version : ℕ) (path : List ℕ) → Lawful events horizon
    → AsksVersion events at version → commit_gap (stands_at events) (standing events) version choice ≡ Some path → opened events limits at choice now ≡ Err (Missing path)

abbrev pub AboveIsNoVersion : Type 0
AboveIsNoVersion = (events : List Told) (horizon : ℤ) (limits : Limits) (choice : Choice) (now : ℤ) (last version : ℕ) → Lawful events horizon → last + 1 ≡ next_version events → last < version
    → opened events limits (Some version) choice now ≡ Err (NoVersion last)

abbrev pub EmptyIsMissing : Type 0
EmptyIsMissing = (events : List Told) (horizon : ℤ) (limits : Limits) (at : Option ℕ) (choice : Choice) (now : ℤ) → Lawful events horizon → next_version events ≡ 0
    → opened events limits at choice now ≡ Err (Missing (commit_path 0))

abbrev pub EachAnswer : Type 0
EachAnswer = (events : List Told) (horizon : ℤ) (limits : Limits) (at : Option ℕ) (choice : Choice) (now : ℤ) → Lawful events horizon → AnswersHistory events limits at choice now (opened events limits at choice now)
