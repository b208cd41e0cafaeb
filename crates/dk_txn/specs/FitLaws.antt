-- What a commit comes to of a transaction that stands to a lawful log as it should.
use Rattle.std.specs.Prelude.{◌≡◌, ◌<◌, ◌≤◌, ◌^◌, false, ℕ, ℤ, List, None, Ok}
use Rattle.dk_store.specs.Told.{Told}
use Rattle.dk_model.specs.declared.action.Action.{Action}
use Rattle.dk_engine.specs.declared.limits.Limits.{Limits}
use Rattle.dk_lawful.specs.History.{By_file, commits_of, history, next_version, table, table_before}
use Rattle.dk_lawful.specs.Ids.{HasId, StandsNowhere}
use Rattle.dk_lawful.specs.Lawful.{Lawful}
use Rattle.dk_lawful.specs.Managed.{is_managed}
use Rattle.dk_paths.specs.Numbers.{id_text}
use Rattle.dk_lawful.specs.Rules.{IsValidNext}
use Rattle.dk_lawful.specs.Transacted.{transacted}
use Rattle.dk_txn.specs.declared.transaction.Transaction.{Transaction}
use Rattle.dk_txn.specs.Attempt.{Writing, way_of, attempt, own_commit}
use Rattle.dk_txn.specs.Transactions.{ToWrite, outcome, Comes}
use Rattle.dk_txn.specs.TransactionHistory.{FitsLog, StandsTo, later_commits, own_of}
use Rattle.dk_txn.specs.Winners.{conflict_after}

-- What is to be written is the next version, by the way by which the table goes on, and keeps the rules after its commits; none of the commits since the
-- snapshot is in its way, each by the state before it, and none of them has its id. So far no catalogue manages the table and no commit says its time, so what
-- the law has it commit is the line of its id and its actions.
pub record IsNextOf (events : List Told) (t : Transaction) (now : ℤ) (writing : Writing) : Type 0 where
  pub next : writing.version ≡ next_version events
  pub way : writing.way ≡ way_of (table events)
  pub by_file : is_managed (table events) ≡ false
  pub valid : IsValidNext (commits_of (history events)) (own_of t events now)
  pub written : own_of t events now ≡ own_commit t.id t.actions.items
  pub free : conflict_after t.reads t.actions.items (table_before events t.from.version) t.from.version (later_commits t events) ≡ None
  pub none_own : (version : ℕ) → t.from.version ≤ version → HasId (history events) version (id_text t.id) → ⊥

-- of a transaction that stands to the log, whatever its id
abbrev pub StandingIsNext : Type 0
StandingIsNext = (events : List Told) (horizon : ℤ) (limits : Limits) (t : Transaction) (now : ℤ) (writing : Writing) → Lawful events horizon → StandsTo events horizon t
    → outcome events limits t now ≡ Ok (ToWrite writing) → IsNextOf events t now writing

-- that of one that is fit stands nowhere yet
abbrev pub FitIsNext : Type 0
FitIsNext = (events : List Told) (horizon : ℤ) (limits : Limits) (t : Transaction) (now : ℤ) (writing : Writing) → Lawful events horizon → FitsLog events horizon t
    → outcome events limits t now ≡ Ok (ToWrite writing) → IsNextOf events t now writing × StandsNowhere events (id_text t.id)

-- and so it may come next
abbrev pub FitComes : Type 0
FitComes = (events : List Told) (horizon : ℤ) (limits : Limits) (t : Transaction) (now : ℤ) → Lawful events horizon → FitsLog events horizon t → Comes (outcome events limits t now) (own_of t events now) events

-- what is to be written over a lawful log by one that begins at its latest version is what the law has it commit at that moment
abbrev pub AttemptsAreTransacted : Type 0
AttemptsAreTransacted = (events : List Told) (horizon : ℤ) (limits : Limits) (actions : List Action) (now : ℤ) (id : ℕ) (writing : Writing) → Lawful events horizon → writing.version < 2 ^ 63
    → attempt events limits actions now id ≡ Ok writing → transacted (commits_of (history events)) now (id_text id) actions ≡ own_commit id actions

-- so far whatever is to be written comes by file, over any events
abbrev pub WrittenByFile : Type 0
WrittenByFile = (events : List Told) (limits : Limits) (t : Transaction) (now : ℤ) (writing : Writing) → outcome events limits t now ≡ Ok (ToWrite writing) → writing.way ≡ By_file

abbrev pub AttemptedByFile : Type 0
AttemptedByFile = (events : List Told) (limits : Limits) (actions : List Action) (now : ℤ) (id : ℕ) (writing : Writing) → attempt events limits actions now id ≡ Ok writing → writing.way ≡ By_file
