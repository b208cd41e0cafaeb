-- The laws of the log, as statements. A list of events has the newest first, so what was before is its end.
use Rattle.std.specs.Prelude.{◌≡◌, true, false, ℕ, ℤ, ◌+◌, ◌^◌, ◌<◌, ◌≤◌, ◌≤ℤ◌, ◌⊎◌, List, ◌∷◌, ◌++◌, Option, Some, None, Result, IfSome, IsSome, IsNone, length, option_and_then, slice_get}
use Rattle.dk_model.specs.declared.action.Action.{Action}
use Rattle.dk_model.specs.declared.action.Protocol.{Protocol}
use Rattle.dk_model.specs.declared.state.TableState.{TableState}
use Rattle.dk_model.specs.CommitText.{commit_of}
use Rattle.dk_model.specs.State.{fold, steps}
use Rattle.dk_features.specs.InForce.{has_feature}
use Rattle.dk_store.specs.declared.event.Put.{Put}
use Rattle.dk_store.specs.declared.event.StoreError.{StoreError}
use Rattle.dk_store.specs.Told.{Told}
use Rattle.dk_store.specs.Objects.{object, content}
use Rattle.dk_store.specs.Writing.{PutsNew, MayRatify}
use Rattle.dk_paths.specs.Names.{commit_path}
use Rattle.dk_paths.specs.Places.{Place, Commit_at, Sidecar, Staged}
use Rattle.dk_paths.specs.Staged.{staged_name}
use Rattle.dk_store.specs.Standings.{standing, next_ratified}
use Rattle.dk_lawful.specs.Present.{Holds, Present, IsLastPublished, versions_up_to, AtMostPublished, HasStaged, Available, Complete, HasAbove}
use Rattle.dk_lawful.specs.History.{RatifiedCommit, history, next_version, commits_of, table, table_at, commits_before, table_before, managed_since, goes_on_by, HasHeads}
use Rattle.dk_lawful.specs.Agree.{Agree}
use Rattle.dk_lawful.specs.Permits.{IsNextCommit}
use Rattle.dk_lawful.specs.Lawful.{Lawful}
use Rattle.dk_lawful.specs.Floor.{FromFloor, HasBetween}
use Rattle.dk_lawful.specs.Checkpoints.{Names}
use Rattle.dk_lawful.specs.Managed.{is_managed}
use Rattle.dk_lawful.specs.Rules.{first_broken, KeepsRules, IsValidNext}
use Rattle.dk_lawful.specs.Kept.{IfBoth, KeepsLawful, HistoryAfterPut}

-- what was before is lawful, so the log is lawful after each single event
abbrev pub PrefixesAreLawful : Type 0
PrefixesAreLawful = (newer events : List Told) (horizon : ℤ) → Lawful (newer ++ events) horizon → Lawful events horizon

abbrev pub GreaterHorizonIsLawful : Type 0
GreaterHorizonIsLawful = (events : List Told) (horizon greater : ℤ) → horizon ≤ℤ greater → Lawful events horizon → Lawful events greater

-- whatever events come, the history has at its front what it had
abbrev pub HistoryGrows : Type 0
HistoryGrows = (newer events : List Told) → (more : List RatifiedCommit) × (history (newer ++ events) ≡ history events ++ more)

-- one event adds at most one commit
abbrev pub OneAtATime : Type 0
OneAtATime = (event : Told) (events : List Told) → next_version (event ∷ events) ≤ next_version events + 1

-- a commit of the history stays at its version for good
abbrev pub CommitsStay : Type 0
CommitsStay = (newer events : List Told) (version : ℕ) (commit : RatifiedCommit)
    → slice_get (history events) version ≡ Some commit → slice_get (history (newer ++ events)) version ≡ Some commit

-- each commit came by the way by which the table went on before it
abbrev pub EachCameItsWay : Type 0
EachCameItsWay = (events : List Told) (version : ℕ) (commit : RatifiedCommit) → slice_get (history events) version ≡ Some commit
    → goes_on_by commit.way (table_before events version) ≡ true

-- These are the commits that stand in the log, from version 0 on: each at its path and with this meaning, and none from the end of the list on.
pub record IsWholeLog (events : List Told) (log : List (List Action)) : Type 0 where
  pub small : length log ≤ 2 ^ 63
  pub each : (version : ℕ) → version < length log → option_and_then commit_of (content events (commit_path version)) ≡ slice_get log version
  pub last : (version : ℕ) → length log ≤ version → version < 2 ^ 63 → content events (commit_path version) ≡ None

-- while nothing that is needed was deleted, the log of a table that isn't managed shows the history and nothing else
abbrev pub LogShowsHistory : Type 0
LogShowsHistory = (events : List Told) (horizon : ℤ) → Lawful events horizon → FromFloor events 0 → is_managed (table events) ≡ false
    → IsWholeLog events (commits_of (history events))

-- whoever reads a log as a whole reads one and the same
abbrev pub WholeLogIsOne : Type 0
WholeLogIsOne = (events : List Told) (log other : List (List Action)) → IsWholeLog events log → IsWholeLog events other → log ≡ other

-- Whoever has read a whole log, and it leads to a table that isn't managed, has read the history, whatever was deleted.
abbrev pub ReadLogIsHistory : Type 0
ReadLogIsHistory = (events : List Told) (horizon : ℤ) (log : List (List Action)) → Lawful events horizon → IsWholeLog events log
    → is_managed (fold log) ≡ false → log ≡ commits_of (history events)

-- from version 0 on the table has a protocol and metadata
abbrev pub TableIsWhole : Type 0
TableIsWhole = (events : List Told) (horizon : ℤ) → Lawful events horizon → (version : ℕ) → version < next_version events
    → HasHeads (table_at events version)

-- a commit that stands in the log means what the history has at its version
abbrev pub StandingCommitIsHistory : Type 0
StandingCommitIsHistory = (events : List Told) (horizon : ℤ) → Lawful events horizon → (version : ℕ) (bytes : List ℕ) → Holds events (Commit_at version) bytes
    → commit_of bytes ≡ slice_get (commits_of (history events)) version

-- so does the staged commit of a version that stands ratified
abbrev pub StagedCommitIsHistory : Type 0
StagedCommitIsHistory = (events : List Told) (horizon : ℤ) → Lawful events horizon → (version id : ℕ) (bytes : List ℕ)
    → standing events version ≡ Some (staged_name version id) → Holds events (Staged version id) bytes → commit_of bytes ≡ slice_get (commits_of (history events)) version

-- the last version of the history can be read, and none beyond it
abbrev pub LastIsAvailable : Type 0
LastIsAvailable = (events : List Told) (horizon : ℤ) → Lawful events horizon → (version : ℕ) → version + 1 ≡ next_version events → Available events version

abbrev pub NoneBeyondLast : Type 0
NoneBeyondLast = (events : List Told) (horizon : ℤ) → Lawful events horizon → (version : ℕ) → Available events version → version < next_version events

-- the last published version is one
abbrev pub LastPublishedIsOne : Type 0
LastPublishedIsOne = (events : List Told) (last other : Option ℕ) → IsLastPublished events last → IsLastPublished events other → last ≡ other

-- of a table that isn't managed the last version of the history is the last published one
abbrev pub LastIsPublished : Type 0
LastIsPublished = (events : List Told) (horizon : ℤ) → Lawful events horizon → is_managed (table events) ≡ false → (last : Option ℕ) → IsLastPublished events last
    → next_version events ≡ versions_up_to last

-- each version of the history can be read, or lies below a complete checkpoint; from a version that is at least the floor on, below one of at most that
abbrev pub NeededStays : Type 0
NeededStays = (events : List Told) (horizon : ℤ) → Lawful events horizon → (version : ℕ) → version < next_version events → Available events version ⊎ HasAbove events version

abbrev pub KeptFromFloor : Type 0
KeptFromFloor = (events : List Told) (horizon : ℤ) → Lawful events horizon → (version kept : ℕ) → version < next_version events → FromFloor events kept
    → Available events version ⊎ HasBetween events version kept

-- the last version is at least the floor, and so is each above one that is
abbrev pub LastIsFromFloor : Type 0
LastIsFromFloor = (events : List Told) (horizon : ℤ) → Lawful events horizon → (version : ℕ) → version + 1 ≡ next_version events → FromFloor events version

abbrev pub FloorIsUpward : Type 0
FloorIsUpward = (events : List Told) (version greater : ℕ) → version ≤ greater → FromFloor events version → FromFloor events greater

-- each sidecar that a checkpoint names stands
abbrev pub SidecarsStay : Type 0
SidecarsStay = (events : List Told) (horizon : ℤ) → Lawful events horizon → (place : Place) (name : List ℕ) → Names events place name → Present events (Sidecar name)

-- a version that stands ratified came to a managed table, and its commit can be read
abbrev pub RatifiedIsManaged : Type 0
RatifiedIsManaged = (events : List Told) (horizon : ℤ) → Lawful events horizon → (version : ℕ) (name : List ℕ) → standing events version ≡ Some name
    → is_managed (table_before events version) ≡ true

abbrev pub RatifiedStays : Type 0
RatifiedStays = (events : List Told) (horizon : ℤ) → Lawful events horizon → (version : ℕ) (name : List ℕ) → standing events version ≡ Some name → Available events version

-- a ratified version that isn't published has its staged commit
abbrev pub UnpublishedIsStaged : Type 0
UnpublishedIsStaged = (events : List Told) (horizon : ℤ) → Lawful events horizon → (version : ℕ) → version < next_version events → (AtMostPublished events version → ⊥) → HasStaged events version

-- Of a log with ratifications the next version is one above the greatest that was ever ratified, so that the store never answers
-- that another one is.
abbrev pub NextIsRatifiedNext : Type 0
NextIsRatifiedNext = (events : List Told) (horizon : ℤ) → Lawful events horizon → MayRatify (next_version events) (next_ratified events)

-- a version that came by file has its commit, or lies below a complete checkpoint
abbrev pub FilesStay : Type 0
FilesStay = (events : List Told) (horizon : ℤ) → Lawful events horizon → (version : ℕ) → version < next_version events → is_managed (table_before events version) ≡ false
    → Present events (Commit_at version) ⊎ HasAbove events version

-- So each version up to the one that joined the catalogue has its commit, or lies below a complete checkpoint, and what stands ratified is
-- above that one.
abbrev pub FilesUpToJoin : Type 0
FilesUpToJoin = (events : List Told) (horizon : ℤ) → Lawful events horizon → (version : ℕ) → version < next_version events
    → ((since : ℕ) → managed_since events ≡ Some since → version ≤ since) → Present events (Commit_at version) ⊎ HasAbove events version

abbrev pub RatifiedIsAboveJoin : Type 0
RatifiedIsAboveJoin = (events : List Told) (horizon : ℤ) → Lawful events horizon → (version : ℕ) (name : List ℕ) → standing events version ≡ Some name
    → (since : ℕ) × (managed_since events ≡ Some since) × (since < version)

-- each commit of the history keeps the rules after those before it
abbrev pub EachIsValid : Type 0
EachIsValid = (events : List Told) (horizon : ℤ) → Lawful events horizon → (version : ℕ) (commit : RatifiedCommit) → slice_get (history events) version ≡ Some commit
    → IsValidNext (commits_before events version) commit.actions

-- what was published stays so, though its commit may go; complete checkpoints are of published versions
abbrev pub PublishedStays : Type 0
PublishedStays = (newer events : List Told) (horizon : ℤ) → Lawful (newer ++ events) horizon → (version : ℕ) → AtMostPublished events version → AtMostPublished (newer ++ events) version

abbrev pub CompleteIsPublished : Type 0
CompleteIsPublished = (events : List Told) (horizon : ℤ) → Lawful events horizon → (version : ℕ) → Complete events version → AtMostPublished events version

-- once a table is managed it stays so
abbrev pub ManagementStays : Type 0
ManagementStays = (before : TableState) (last : Option ℤ) (version : ℕ) (actions : List Action) → KeepsRules before last version actions → is_managed before ≡ true → is_managed (steps before actions) ≡ true

-- A put of the next commit's text leaves a lawful log lawful, whatever it answers.
abbrev pub PutKeepsLawful : Type 0
PutKeepsLawful = (version : ℕ) (path bytes : List ℕ) (actions : List Action) (old new : Option (List Told)) (result : Result Put StoreError)
    → path ≡ commit_path version → version < 2 ^ 63 → commit_of bytes ≡ Some actions
    → IfSome old (λ events. (horizon : ℤ) → Lawful events horizon → IsNextCommit events version actions)
    → PutsNew path bytes old result new → KeepsLawful old new

-- It adds exactly that commit to the history, or leaves it, as its answer says.
abbrev pub PutAddsCommit : Type 0
PutAddsCommit = (version : ℕ) (path bytes : List ℕ) (actions : List Action) (old new : Option (List Told)) (result : Result Put StoreError)
    → path ≡ commit_path version → version < 2 ^ 63 → commit_of bytes ≡ Some actions
    → IfSome old (λ events. (horizon : ℤ) → Lawful events horizon → IsNextCommit events version actions)
    → PutsNew path bytes old result new
    → IfBoth old new (λ events later. (horizon : ℤ) → Lawful events horizon → HistoryAfterPut actions result events later)

-- A put takes nothing away, so each version that was at least the floor still is.
abbrev pub PutLeavesFloor : Type 0
PutLeavesFloor = (path bytes : List ℕ) (old new : Option (List Told)) (result : Result Put StoreError) → PutsNew path bytes old result new
    → IfBoth old new (λ events later. (version : ℕ) → FromFloor events version → FromFloor later version)

-- On a lawful log the next commit's path is free, so that the put of it never answers that something was there.
abbrev pub NextIsFree : Type 0
NextIsFree = (events : List Told) (horizon : ℤ) (version : ℕ) → Lawful events horizon → version ≡ next_version events → version < 2 ^ 63 → IsNone (object events (commit_path version))

-- a put at a name that is taken adds nothing
abbrev pub TakenAddsNothing : Type 0
TakenAddsNothing = (path bytes : List ℕ) (events : List Told) (new : Option (List Told)) (result : Result Put StoreError)
    → IsSome (object events path) → PutsNew path bytes (Some events) result new → new ≡ Some events

-- a table of a writer version below 7 isn't managed
abbrev pub LowWriterIsUnmanaged : Type 0
LowWriterIsUnmanaged = (state : TableState) (protocol : Protocol) → state.protocol ≡ Some protocol → protocol.min_writer < 7 → is_managed state ≡ false

-- a feature that is in force stays so
abbrev pub FeaturesStay : Type 0
FeaturesStay = (before : TableState) (last : Option ℤ) (version : ℕ) (actions : List Action) (name : List ℕ) → KeepsRules before last version actions
    → has_feature before.protocol name ≡ true → has_feature (steps before actions).protocol name ≡ true

-- the rules look at no more of the state before than its protocol and its metadata
abbrev pub RulesByHeads : Type 0
RulesByHeads = (before other : TableState) (last : Option ℤ) (version : ℕ) (actions : List Action) → before.protocol ≡ other.protocol → before.metadata ≡ other.metadata
    → first_broken before last version actions ≡ first_broken other last version actions

-- so a state that agrees with that of the commits before has the same valid commits after these
abbrev pub AgreeingHaveSameRules : Type 0
AgreeingHaveSameRules = (state whole : TableState) (horizon : ℤ) (last : Option ℤ) (version : ℕ) (actions : List Action) → Agree state whole horizon
    → first_broken state last version actions ≡ first_broken whole last version actions
