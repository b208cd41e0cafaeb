-- What opens of a lawful log, by its history (Delta Lake's PROTOCOL.md, "Delta Log Entries", "Checkpoints", "Catalog-managed tables").
use Rattle.std.specs.Prelude.{ℕ, zero, suc, ℤ, ◌≡◌, ◌<◌, ◌≤◌, ◌+◌, ◌⊎◌, List, [], ◌∷◌, Option, Some, None, Result, Ok, Err, IfSome, IsSome}
use Rattle.std.specs.List.{AllByRecursion}
use Rattle.dk_model.specs.declared.action.Metadata.{Metadata}
use Rattle.dk_model.specs.declared.action.Protocol.{Protocol}
use Rattle.dk_model.specs.declared.state.TableState.{TableState}
use Rattle.dk_features.specs.Support.{unread_name}
use Rattle.dk_store.specs.Told.{Told}
use Rattle.dk_store.specs.Standings.{standing}
use Rattle.dk_paths.specs.Names.{commit_path}
use Rattle.dk_lawful.specs.declared.segment.Choice.{Choice}
use Rattle.dk_lawful.specs.declared.segment.Segment.{Segment}
use Rattle.dk_lawful.specs.declared.segment.Step.{Step}
use Rattle.dk_lawful.specs.Agree.{Agree}
use Rattle.dk_lawful.specs.Floor.{FromFloor}
use Rattle.dk_lawful.specs.History.{next_version, table_at}
use Rattle.dk_lawful.specs.Lawful.{Lawful}
use Rattle.dk_lawful.specs.SoFar.{awaited}
use Rattle.dk_lawful.specs.Segments.{HasAllCommits, commit_gap, commit_segment}
use Rattle.dk_engine.specs.declared.limits.Limits.{Limits}
use Rattle.dk_engine.specs.declared.limits.Which.TheVariants.{Object}
use Rattle.dk_engine.specs.declared.refusal.Refusal.{Refusal}
use Rattle.dk_engine.specs.declared.refusal.Refusal.TheVariants.{Limit, Missing, NoVersion, Unsupported}
use Rattle.dk_listing.specs.OfEvents.{stands_at, latest}
use Rattle.dk_listing.specs.Sizes.{stored_size}
use Rattle.dk_snapshot.specs.declared.table.Snapshot.{Snapshot}
use Rattle.dk_snapshot.specs.Opens.{Opens}
use Rattle.dk_snapshot.specs.Steps.{oldest_path, step_path}
use Rattle.dk_snapshot.specs.Support.{retention_key, retention, cut_before, cut_of}

-- ---- versions

-- the last of so many versions
abbrev pub last_of : ℕ → Option ℕ
last_of zero = None
last_of (suc version) = Some version

-- the latest version is the last one of the history
abbrev pub LatestIsLast : Type 0
LatestIsLast = (events : List Told) (horizon : ℤ) → Lawful events horizon → latest events ≡ last_of (next_version events)

-- the version that is asked for: the last one of the history, or a given one that it has
abbrev pub AsksVersion : List Told → Option ℕ → ℕ → Type 0
AsksVersion events None version = version + 1 ≡ next_version events
AsksVersion events (Some asked) version = (version ≡ asked) × (version < next_version events)

-- no commit that the version needs is missing
abbrev pub IsKeptBy : List Told → ℕ → Choice → Type 0
IsKeptBy events version choice = HasAllCommits (stands_at events) (standing events) version choice

-- what the version is read from
abbrev pub segment_by : List Told → ℕ → Choice → Segment
segment_by events version choice = commit_segment (stands_at events) (standing events) version choice

-- ---- a version that is answered

-- it is the asked one, the history has it, and it is kept
abbrev pub OpenedIsAsked : Type 0
OpenedIsAsked = (events : List Told) (horizon : ℤ) (limits : Limits) (at : Option ℕ) (choice : Choice) (now : ℤ) (snapshot : Snapshot) → Lawful events horizon
    → Opens events limits at choice now (Ok snapshot) → AsksVersion events at snapshot.version × IsKeptBy events snapshot.version choice

-- its state is that of the history's commits up to it, but that tombstones may lack whose time isn't above the horizon
abbrev pub OpenedAgrees : Type 0
OpenedAgrees = (events : List Told) (horizon : ℤ) (limits : Limits) (at : Option ℕ) (choice : Choice) (now : ℤ) (snapshot : Snapshot) → Lawful events horizon
    → Opens events limits at choice now (Ok snapshot) → Agree snapshot.state (table_at events snapshot.version) horizon

-- and exactly that, as long as segments are made of commits alone
abbrev pub OpenedIsTable : Type 0
OpenedIsTable = (events : List Told) (horizon : ℤ) (limits : Limits) (at : Option ℕ) (choice : Choice) (now : ℤ) (snapshot : Snapshot) → Lawful events horizon
    → Opens events limits at choice now (Ok snapshot) → snapshot.state ≡ table_at events snapshot.version

-- its removed files are told from the moment of the call on, less the time that the table keeps them
abbrev pub HasCut : Option Metadata → ℤ → ℤ → Type 0
HasCut None now cut = ⊥
HasCut (Some metadata) now cut = (kept : ℤ) × (retention metadata ≡ Some kept) × (cut ≡ cut_before now kept)

abbrev pub OpenedHasCut : Type 0
OpenedHasCut = (events : List Told) (horizon : ℤ) (limits : Limits) (at : Option ℕ) (choice : Choice) (now : ℤ) (snapshot : Snapshot) → Lawful events horizon
    → Opens events limits at choice now (Ok snapshot) → HasCut snapshot.state.metadata now snapshot.cut

-- the table's text of how long it keeps removed files is no interval, and the refusal names its setting
abbrev pub RefusesRetention : List ℕ → Option Metadata → Type 0
RefusesRetention name None = ⊥
RefusesRetention name (Some metadata) = (name ≡ retention_key) × (retention metadata ≡ None)

-- the table awaits a feature that isn't built so far, and the refusal names what isn't read of it
abbrev pub RefusesAwaited : List ℕ → Option Protocol → Type 0
RefusesAwaited name None = ⊥
RefusesAwaited name (Some protocol) = IsSome (awaited (Some protocol)) × (unread_name protocol ≡ Some name)

-- what is refused of a table of a lawful log
abbrev pub RefusesTable : List ℕ → TableState → Type 0
RefusesTable name state = RefusesRetention name state.metadata ⊎ RefusesAwaited name state.protocol

-- ---- a version of the history that is kept

-- none of the objects of the steps is over the limit
abbrev pub AreWithinLimit : List Told → ℕ → List Step → Type 0
AreWithinLimit events limit steps = AllByRecursion (λ step. IfSome (stored_size events (step_path step)) (λ size. size ≤ limit)) steps

-- the newest of them that is over the limit has this size; the steps stand oldest first
abbrev pub IsNewestOver : List Told → ℕ → List Step → ℕ → Type 0
IsNewestOver events limit [] size = ⊥
IsNewestOver events limit (step ∷ newer) size =
    IsNewestOver events limit newer size ⊎ (AreWithinLimit events limit newer × (stored_size events (step_path step) ≡ Some size) × (limit < size))

-- The answer is this version of the history, read from this segment: each of its objects was within the limit, and the table is one that is read.
-- Its state is that of the commits up to it, but that tombstones may lack whose time isn't above the horizon.
pub record IsVersionOf (events : List Told) (horizon : ℤ) (limits : Limits) (now : ℤ) (version : ℕ) (segment : Segment) (snapshot : Snapshot) : Type 0 where
  pub is_version : snapshot.version ≡ version
  pub is_segment : snapshot.segment ≡ segment
  pub state : Agree snapshot.state (table_at events version) horizon
  pub within : AreWithinLimit events limits.object segment.steps
  pub cut : cut_of (oldest_path segment) (table_at events version) now ≡ Ok snapshot.cut

-- It is that, or an object of the segment is over the limit, or the table asks for what isn't read; the size is that of the newest such object.
abbrev pub AnswersVersion : List Told → ℤ → Limits → ℤ → ℕ → Segment → Result Snapshot Refusal → Type 0
AnswersVersion events horizon limits now version segment (Ok snapshot) = IsVersionOf events horizon limits now version segment snapshot
AnswersVersion events horizon limits now version segment (Err (Limit Object size)) = IsNewestOver events limits.object segment.steps size
AnswersVersion events horizon limits now version segment (Err (Unsupported name)) =
    AreWithinLimit events limits.object segment.steps × RefusesTable name (table_at events version)
AnswersVersion events horizon limits now version segment (Err _) = ⊥

abbrev pub KeptIsAnswered : Type 0
KeptIsAnswered = (events : List Told) (horizon : ℤ) (limits : Limits) (at : Option ℕ) (choice : Choice) (now : ℤ) (version : ℕ) (result : Result Snapshot Refusal) → Lawful events horizon → AsksVersion events at version
    → IsKeptBy events version choice → Opens events limits at choice now result → AnswersVersion events horizon limits now version (segment_by events version choice) result

-- as long as no deletion has taken what a version needs, each version of the history is kept, whatever the choice
abbrev pub UndeletedIsKept : Type 0
UndeletedIsKept = (events : List Told) (horizon : ℤ) (choice : Choice) (version : ℕ) → Lawful events horizon → FromFloor events 0 → version < next_version events → IsKeptBy events version choice

-- ---- others

-- a version of the history that isn't kept is refused with the path of its first missing commit
abbrev pub GapIsMissing : Type 0
GapIsMissing = (events : List Told) (horizon : ℤ) (limits : Limits) (at : Option ℕ) (choice : Choice) (now : ℤ) (version : ℕ) (path : List ℕ) (result : Result Snapshot Refusal) → Lawful events horizon
    → AsksVersion events at version → commit_gap (stands_at events) (standing events) version choice ≡ Some path → Opens events limits at choice now result → result ≡ Err (Missing path)

-- one above the last version of the history is refused with the last one
abbrev pub AboveIsNoVersion : Type 0
AboveIsNoVersion = (events : List Told) (horizon : ℤ) (limits : Limits) (choice : Choice) (now : ℤ) (last version : ℕ) (result : Result Snapshot Refusal) → Lawful events horizon → last + 1 ≡ next_version events → last < version
    → Opens events limits (Some version) choice now result → result ≡ Err (NoVersion last)

-- a log with no history lacks its first commit
abbrev pub EmptyIsMissing : Type 0
EmptyIsMissing = (events : List Told) (horizon : ℤ) (limits : Limits) (at : Option ℕ) (choice : Choice) (now : ℤ) (result : Result Snapshot Refusal) → Lawful events horizon → next_version events ≡ 0
    → Opens events limits at choice now result → result ≡ Err (Missing (commit_path 0))

-- ---- each answer

-- Each answer has its cause in the history: a version is the asked one and is kept; an object of such a version is over the limit, or its table's
-- text of how long it keeps removed files is no interval, or it awaits a feature; of a version that isn't kept the first missing commit is named, and of no history the first one; nothing else comes.
abbrev pub AnswersHistory : List Told → Limits → Option ℕ → Choice → ℤ → Result Snapshot Refusal → Type 0
AnswersHistory events limits at choice now (Ok snapshot) =
    AsksVersion events at snapshot.version × IsKeptBy events snapshot.version choice × (snapshot.state ≡ table_at events snapshot.version) × HasCut snapshot.state.metadata now snapshot.cut
AnswersHistory events limits at choice now (Err (Limit Object size)) =
    (version : ℕ) × AsksVersion events at version × IsKeptBy events version choice × IsNewestOver events limits.object (segment_by events version choice).steps size
AnswersHistory events limits at choice now (Err (Unsupported name)) =
    (version : ℕ) × AsksVersion events at version × IsKeptBy events version choice × AreWithinLimit events limits.object (segment_by events version choice).steps
    × RefusesTable name (table_at events version)
AnswersHistory events limits at choice now (Err (Missing path)) =
    ((version : ℕ) × AsksVersion events at version × (commit_gap (stands_at events) (standing events) version choice ≡ Some path)) ⊎ ((next_version events ≡ 0) × (path ≡ commit_path 0))
AnswersHistory events limits at choice now (Err (NoVersion last)) = (asked : ℕ) × (at ≡ Some asked) × (last + 1 ≡ next_version events) × (last < asked)
AnswersHistory events limits at choice now (Err _) = ⊥

abbrev pub EachAnswer : Type 0
EachAnswer = (events : List Told) (horizon : ℤ) (limits : Limits) (at : Option ℕ) (choice : Choice) (now : ℤ) (result : Result Snapshot Refusal) → Lawful events horizon → Opens events limits at choice now result → AnswersHistory events limits at choice now result
