-- What a commit of a transaction comes to, by the events of the store alone (Delta Lake's PROTOCOL.md, "Delta Log Entries", "ACID
-- guarantees"): optimistic concurrency.
use Rattle.std.specs.Prelude.{ℕ, ℤ, ◌+◌, ◌-◌, ◌^◌, ◌<◌, ◌≡◌, ◌⊎◌, ◌==◌, List, [], Option, Some, None, Result, Ok, Err, IfSome, nat_lt, max, option_map, if◌then◌else◌}
use Rattle.std.specs.Option.{option_or}
use Rattle.dk_store.specs.Told.{Told}
use Rattle.dk_model.specs.declared.action.Action.{Action}
use Rattle.dk_model.specs.declared.action.Protocol.{Protocol}
use Rattle.dk_model.specs.declared.action.Metadata.{Metadata}
use Rattle.dk_model.specs.declared.kind.Kind.{Kind}
use Rattle.dk_model.specs.declared.state.TableState.{TableState}
use Rattle.dk_model.specs.CommitText.{commit_of}
use Rattle.dk_model.specs.State.{steps_of_all}
use Rattle.dk_paths.specs.Numbers.{id_text}
use Rattle.dk_conflicts.specs.declared.reads.Reads.{Reads}
use Rattle.dk_engine.specs.declared.limits.Limits.{Limits}
use Rattle.dk_engine.specs.declared.limits.Which.TheVariants as which
use Rattle.dk_engine.specs.declared.refusal.Refusal.{Refusal}
use Rattle.dk_engine.specs.declared.refusal.Refusal.TheVariants as refusals
use Rattle.dk_engine.specs.Answers.{Refuses}
use Rattle.dk_lawful.specs.declared.segment.Segment.{Segment}
use Rattle.dk_lawful.specs.declared.segment.Step.{Step}
use Rattle.dk_listing.specs.OfEvents.{latest}
use Rattle.dk_snapshot.specs.declared.table.Snapshot.{Snapshot}
use Rattle.dk_snapshot.specs.Steps.{oldest_path}
use Rattle.dk_snapshot.specs.Support.{first_commit}
use Rattle.dk_lawful.specs.History.{By_file}
use Rattle.dk_txn.specs.declared.attempt.Writing as written
use Rattle.dk_txn.specs.declared.commit.Committed.{Committed}
use Rattle.dk_txn.specs.declared.prepared.Prepared.{Prepared}
use Rattle.dk_txn.specs.declared.prepared.Prepared.TheVariants as prepared
use Rattle.dk_txn.specs.declared.prepared.Reached as reached_code
use Rattle.dk_txn.specs.declared.prepared.Reached.TheVariants as reached_codes
use Rattle.dk_txn.specs.declared.start.Start.{Start}
use Rattle.dk_txn.specs.declared.transaction.Transaction.{Transaction}
use Rattle.dk_txn.specs.declared.winners.Found.{Found}
use Rattle.dk_txn.specs.declared.winners.Found.TheVariants as found
use Rattle.dk_txn.specs.Attempt.{start, start_of, last_version, own_commit, commit_text, allowed, Writing, written_after, if_allowed, if_within}
use Rattle.dk_txn.specs.Commits.{Commits, ComesNext, SaysHistory}
use Rattle.dk_txn.specs.Winners.{Since, Own, Others, since, since_steps, or_gone, conflict_after}

-- ---- how it begins

-- it has read so much, has this id, has staged nothing, and commits nothing yet
pub record IsNew (read : Reads) (drawn : ℕ) (t : Transaction) : Type 0 where
  pub reads : t.reads ≡ read
  pub id : t.id ≡ drawn
  pub actions : t.actions.items ≡ []
  pub staged : t.staged ≡ None
  pub committed : t.committed ≡ None
  pub small : t.from.version < 2 ^ 63

-- it comes after the snapshot, or before all, and commits nothing yet
pub record Begins (snapshot : Option Snapshot) (read : Reads) (number : ℕ) (t : Transaction) : Type 0 where
  pub from : t.from ≡ start_of snapshot
  pub segment : t.segment ≡ option_map (λ s. s.segment) snapshot
  pub reads : t.reads ≡ read
  pub id : t.id ≡ number
  pub actions : t.actions.items ≡ []
  pub staged : t.staged ≡ None
  pub committed : t.committed ≡ None

-- ---- what came since

-- the state after the winners, and the first of them that is in the way; or the version of the own commit
pub data Reached : Type 0 where
  At_own : ℕ → Reached
  After : TableState → Option (ℕ × Kind) → Reached

-- what the winners from a version on come to, where so much is behind
abbrev pub come_to : Reads → List Action → ℕ → TableState → Option (ℕ × Kind) → Result Since Refusal → Result Reached Refusal
come_to reads own version state first (Ok (Own at)) = Ok (At_own at)
come_to reads own version state first (Ok (Others winners)) = Ok (After (steps_of_all state winners) (option_or first (conflict_after reads own state version winners)))
come_to reads own version state first (Err refusal) = Err refusal

-- what the code found of them, beside the state that it made, and what it reached
abbrev pub reached_view : TableState → Found → Reached
reached_view state (found.Own version) = At_own version
reached_view state (found.Others conflict) = After state conflict

abbrev pub reached_as : reached_code.Reached → Reached
reached_as (reached_codes.AtOwn version) = At_own version
reached_as (reached_codes.After state conflict) = After state conflict

-- ---- whether it may come there

-- a table that has begun has a protocol and metadata; else it is damaged as a whole
abbrev pub if_headed : List ℕ → Option Protocol → Option Metadata → Result (Unit {0}) Refusal
if_headed oldest (Some protocol) (Some metadata) = Ok tt
if_headed oldest protocol metadata = Err (refusals.Damaged oldest 0)

abbrev pub headed : List ℕ → Start → Result (Unit {0}) Refusal
headed oldest from = if from.version == 0 then Ok tt else if_headed oldest from.before.protocol from.before.metadata

-- the path of the oldest object that the snapshot was read from; without a snapshot that of the first commit
abbrev pub oldest_of : Option Segment → List ℕ
oldest_of None = first_commit
oldest_of (Some segment) = oldest_path segment

abbrev pub unless_conflict : Option (ℕ × Kind) → Result (Unit {0}) Refusal
unless_conflict None = Ok tt
unless_conflict (Some conflict) = Err (refusals.Conflict conflict.0 conflict.1)

abbrev pub and_also : Result (Unit {0}) Refusal → Result (Unit {0}) Refusal → Result (Unit {0}) Refusal
and_also (Ok u) later = later
and_also (Err refusal) later = Err refusal

-- support and the rules first, then the conflict
abbrev pub rules_keep : Transaction → Start → Option (ℕ × Kind) → Result (Unit {0}) Refusal
rules_keep t from conflict = and_also (allowed from t.actions.items t.id) (unless_conflict conflict)

-- the heads before all that
abbrev pub may_come : Transaction → Start → Option (ℕ × Kind) → Result (Unit {0}) Refusal
may_come t from conflict = and_also (headed (oldest_of t.segment) from) (rules_keep t from conflict)

-- what is to be written there
abbrev pub writing_at : Transaction → Limits → ℤ → Start → Option (ℕ × Kind) → Result Writing Refusal
writing_at t limits now from conflict = if_allowed (may_come t from conflict) (if_within limits.object (written_after from (commit_text t.id now t.actions.items)))

-- ---- what it comes to

-- its own commit stands already, as this version; or this is to be written
pub data Outcome : Type 0 where
  AlreadyCommitted : ℕ → Outcome
  ToWrite : Writing → Outcome

abbrev pub to_write : Result Writing Refusal → Result Outcome Refusal
to_write (Ok writing) = Ok (ToWrite writing)
to_write (Err refusal) = Err refusal

-- by what came since, where a commit of this version comes next
abbrev pub outcome_after : Transaction → Limits → ℤ → ℕ → Result Reached Refusal → Result Outcome Refusal
outcome_after t limits now next (Ok (At_own version)) = Ok (AlreadyCommitted version)
outcome_after t limits now next (Ok (After state conflict)) = to_write (writing_at t limits now (record { version = next; before = state }) conflict)
outcome_after t limits now next (Err refusal) = Err refusal

-- by the steps of the winners, from a version on
abbrev pub reached_by_steps : List Told → ℕ → Transaction → ℕ → List Step → Result Reached Refusal
reached_by_steps events limit t first steps =
    or_gone (come_to t.reads t.actions.items first t.from.before None (since_steps events limit (id_text t.id) first steps))

abbrev pub reached_at : List Told → Limits → Transaction → ℕ → Result Reached Refusal
reached_at events limits t next =
    come_to t.reads t.actions.items t.from.version t.from.before None (since events limits.object (id_text t.id) t.from.version (next - t.from.version))

abbrev pub outcome_at : List Told → Limits → Transaction → ℤ → ℕ → Result Outcome Refusal
outcome_at events limits t now next =
    if nat_lt last_version next then Err (refusals.Limit which.Version last_version) else outcome_after t limits now next (reached_at events limits t next)

-- the version that comes next: after the latest one, and not before the one after the snapshot
abbrev pub next_from : ℕ → Option ℕ → ℕ
next_from from None = from
next_from from (Some last) = max from (last + 1)

-- what a commit over these events comes to, or why it is refused
abbrev pub outcome : List Told → Limits → Transaction → ℤ → Result Outcome Refusal
outcome events limits t now = outcome_at events limits t now (next_from t.from.version (latest events))

abbrev pub version_of_outcome : Outcome → ℕ
version_of_outcome (AlreadyCommitted version) = version
version_of_outcome (ToWrite writing) = writing.version

abbrev pub version_meant : Result Outcome Refusal → Result ℕ Refusal
version_meant (Ok outcome) = Ok (version_of_outcome outcome)
version_meant (Err refusal) = Err refusal

-- what the code writes, which so far is by file
abbrev pub by_file_writing : written.Writing → Writing
by_file_writing writing = record { version = writing.version; way = By_file; text = writing.text.items }

-- what the code prepared
abbrev pub prepared_as : Prepared → Outcome
prepared_as (prepared.AlreadyCommitted version) = AlreadyCommitted version
prepared_as (prepared.Writing writing) = ToWrite (by_file_writing writing)

-- what is to be written has a version that there can be
abbrev pub IsSmall : Prepared → Type 0
IsSmall (prepared.AlreadyCommitted version) = Unit {0}
IsSmall (prepared.Writing writing) = writing.version < 2 ^ 63

-- what is to be written reads back as the own commit
abbrev pub ReadsBack : ℕ → List Action → Prepared → Type 0
ReadsBack id actions (prepared.AlreadyCommitted version) = Unit {0}
ReadsBack id actions (prepared.Writing writing) = commit_of writing.text.items ≡ Some (own_commit id actions)

-- ---- what a commit did

-- the version at which the own commit stands already
abbrev pub AnswersOwnVersion : ℕ → Result Committed Refusal → Type 0
AnswersOwnVersion version (Ok committed) = committed.version ≡ version
AnswersOwnVersion version (Err refusal) = Refuses refusal (Ok version)

-- By what is meant over the events that were told: an own commit that stands is answered, with no event; else it is as with any commit.
abbrev pub Concludes : Result Outcome Refusal → List Told → Result Committed Refusal → Option (List Told) → Type 0
Concludes (Ok (AlreadyCommitted version)) events result later = AnswersOwnVersion version result × (later ≡ Some events)
Concludes (Ok (ToWrite writing)) events result later = Commits (Ok writing) events result later
Concludes (Err refusal) events result later = Commits (Err refusal) events result later

-- ---- a transaction that begins, puts and commits in one call

-- it has read so much, is to commit these actions under this id, and began at the latest version
pub record IsBegunFor (read : Reads) (own : List Action) (drawn : ℕ) (t : Transaction) : Type 0 where
  pub reads : t.reads ≡ read
  pub actions : t.actions.items ≡ own
  pub id : t.id ≡ drawn
  pub committed : t.committed ≡ None

-- what was answered is what the commit of such a transaction comes to
pub record IsTransacted (limits : Limits) (now : ℤ) (read : Reads) (own : List Action) (drawn : ℕ) (told : Option (List Told)) (result : Result Committed Refusal) (later : Option (List Told)) : Type 0 where
  pub transaction : Transaction
  pub whole : IsBegunFor read own drawn transaction
  pub begins : IfSome told (λ events. start events limits now ≡ Ok transaction.from)
  pub concludes : IfSome told (λ events. Concludes (outcome events limits transaction now) events result later)

-- or its beginning was refused, and nothing was put
abbrev pub Transacts : Limits → ℤ → Reads → List Action → ℕ → Option (List Told) → Result Committed Refusal → Option (List Told) → Type 0
Transacts limits now read own drawn told (Ok committed) later = IsTransacted limits now read own drawn told (Ok committed) later
Transacts limits now read own drawn told (Err refusal) later = (later ≡ told) ⊎ IsTransacted limits now read own drawn told (Err refusal) later

-- ---- what it did on a lawful log

-- what is to be written may come next
abbrev pub Comes : Result Outcome Refusal → List Action → List Told → Type 0
Comes (Ok (ToWrite writing)) commit events = ComesNext writing.version commit events
Comes (Ok (AlreadyCommitted version)) commit events = Unit {0}
Comes (Err refusal) commit events = Unit {0}

-- what the answer says of the history; where the own commit stands already it says nothing more
abbrev pub ConcludesHistory : Result Outcome Refusal → List Action → Result Committed Refusal → List Told → List Told → Type 0
ConcludesHistory (Ok (ToWrite writing)) commit result events later = SaysHistory commit result events later
ConcludesHistory (Ok (AlreadyCommitted version)) commit result events later = Unit {0}
ConcludesHistory (Err refusal) commit result events later = SaysHistory commit result events later

-- ---- what stays

-- after the first Ok a transaction has its version, and is as before otherwise; after a refusal it is as before
abbrev pub Remembers : Transaction → Result Committed Refusal → Transaction → Type 0
Remembers before (Ok committed) after = after ≡ record before { committed = Some committed.version }
Remembers before (Err refusal) after = after ≡ before
