-- What a commit of a transaction did to the history of a lawful log, in the words of those who are at work on a table.
use Rattle.std.specs.Prelude.{◌≡◌, ◌⊎◌, ℕ, ℤ, ◌-◌, ◌==◌, ◌≤◌, List, drop, Option, Some, None, Result, Ok, Err, option_map, if◌then◌else◌}
use Rattle.dk_store.specs.Told.{Told}
use Rattle.dk_model.specs.declared.action.Action.{Action}
use Rattle.dk_model.specs.State.{empty_state}
use Rattle.dk_paths.specs.Numbers.{id_text}
use Rattle.dk_engine.specs.declared.refusal.Refusal.{Refusal}
use Rattle.dk_lawful.specs.Actors as actors
use Rattle.dk_lawful.specs.Agree.{Agree}
use Rattle.dk_lawful.specs.History.{By_file, By_catalogue, history, next_version, commits_of, table, table_before}
use Rattle.dk_lawful.specs.Ids.{HasId}
use Rattle.dk_lawful.specs.Kept.{HasOneMore, IsSameHistory}
use Rattle.dk_lawful.specs.Lawful.{Lawful}
use Rattle.dk_lawful.specs.Rules.{IsValidNext}
use Rattle.dk_txn.specs.declared.commit.Committed.{Committed}
use Rattle.dk_txn.specs.declared.start.Start.{Start}
use Rattle.dk_txn.specs.declared.transaction.StagedCommit.{StagedCommit}
use Rattle.dk_txn.specs.declared.transaction.Transaction.{Transaction}
use Rattle.dk_txn.specs.Attempt.{way_of, written_path}
use Rattle.dk_txn.specs.Commits.{HistoryAfterCommit, HistoryAfterRefusal}
use Rattle.dk_txn.specs.Transactions.{Outcome, AlreadyCommitted, ToWrite}
use Rattle.dk_txn.specs.Winners.{conflict_after}

-- ---- the transaction as the law of the log sees it

abbrev pub snapshot_of : Start → Option actors.Snapshot
snapshot_of from = if from.version == 0 then None else Some (record { version = from.version - 1; state = from.before })

-- the staged commit that it has recorded as its own, and its path
abbrev pub own_staged : StagedCommit → actors.OwnStaged
own_staged staged = record { version = staged.version; uuid = staged.uuid }

abbrev pub recorded_path : Transaction → Option (List ℕ)
recorded_path t = option_map (λ staged. written_path By_catalogue staged.version staged.uuid) t.staged

abbrev pub actor_of : Transaction → actors.Transaction
actor_of t = record { id = t.id; snapshot = snapshot_of t.from; put = t.actions.items; own = option_map own_staged t.staged; answered = t.committed }

-- It stands to the log as it should: without a snapshot it comes after nothing, and where commits are files of their own it has staged none.
pub record FitsLog (events : List Told) (horizon : ℤ) (t : Transaction) : Type 0 where
  pub fits : actors.TransactionFits events horizon (actor_of t)
  pub empty : t.from.version ≡ 0 → t.from.before ≡ empty_state
  pub unstaged : way_of (table events) ≡ By_file → recorded_path t ≡ None

-- Whatever its id: it comes after a version of the history, or before all, with a state that agrees with the one there.
pub record StandsTo (events : List Told) (horizon : ℤ) (t : Transaction) : Type 0 where
  pub known : t.from.version ≤ next_version events
  pub agrees : Agree t.from.before (table_before events t.from.version) horizon

-- ---- what it did

-- what it commits at a moment, as the law of the log has it
abbrev pub own_of : Transaction → List Told → ℤ → List Action
own_of t events now = actors.commit_by (actor_of t) (commits_of (history events)) now

-- the commits of the history that came after its snapshot
abbrev pub later_commits : Transaction → List Told → List (List Action)
later_commits t events = drop t.from.version (commits_of (history events))

-- the history has its commit already, as this version, after the snapshot; nothing was added
pub record HadCommit (t : Transaction) (version : ℕ) (events later : List Told) : Type 0 where
  pub same : later ≡ events
  pub after : t.from.version ≤ version
  pub has : HasId (history events) version (id_text t.id)

-- The history is longer by exactly its commit, as this version; the rules held there, and none of the commits after the snapshot was in the way, each by
-- the state before it.
pub record AddsOwn (t : Transaction) (now : ℤ) (version : ℕ) (events later : List Told) : Type 0 where
  pub next : version ≡ next_version events
  pub more : HasOneMore (own_of t events now) events later
  pub valid : IsValidNext (commits_of (history events)) (own_of t events now)
  pub free : conflict_after t.reads t.actions.items (table_before events t.from.version) t.from.version (later_commits t events) ≡ None

abbrev pub HistoryAfter : Transaction → ℤ → Result Committed Refusal → List Told → List Told → Type 0
HistoryAfter t now (Ok committed) events later = HadCommit t committed.version events later ⊎ AddsOwn t now committed.version events later
HistoryAfter t now (Err refusal) events later = HistoryAfterRefusal refusal (own_of t events now) events later

-- the log stays lawful, the history says what was answered, and the transaction, as it is after the call, stays fit
pub record CommitsOwn (t after : Transaction) (now : ℤ) (result : Result Committed Refusal) (events later : List Told) (horizon : ℤ) : Type 0 where
  pub lawful : Lawful later horizon
  pub history : HistoryAfter t now result events later
  pub fit : FitsLog later horizon after

-- on a lawful log with the transaction fit
abbrev pub SaysOwn : Transaction → Transaction → ℤ → Result Committed Refusal → List Told → List Told → Type 0
SaysOwn t after now result events later = (horizon : ℤ) → Lawful events horizon → FitsLog events horizon t → CommitsOwn t after now result events later horizon

-- ---- whatever its id

-- what was lawful stays so, where the transaction stands to the log
abbrev pub StaysLawfulFrom : Transaction → List Told → List Told → Type 0
StaysLawfulFrom t events later = (horizon : ℤ) → Lawful events horizon → StandsTo events horizon t → Lawful later horizon

-- The history by what the transaction came to: with what was to be written it is as with any commit; else it is as it was.
abbrev pub HistoryFrom : Result Outcome Refusal → List Action → Result Committed Refusal → List Told → List Told → Type 0
HistoryFrom (Ok (ToWrite writing)) own result events later = HistoryAfterCommit own result events later
HistoryFrom (Ok (AlreadyCommitted version)) own result events later = IsSameHistory events later
HistoryFrom (Err refusal) own result events later = IsSameHistory events later

-- with the commit that the law of the log has the transaction make at that moment
abbrev pub SaysFrom : Transaction → ℤ → (List Told → Result Outcome Refusal) → Result Committed Refusal → List Told → List Told → Type 0
SaysFrom t now meant result events later = (horizon : ℤ) → Lawful events horizon → StandsTo events horizon t → HistoryFrom (meant events) (own_of t events now) result events later
