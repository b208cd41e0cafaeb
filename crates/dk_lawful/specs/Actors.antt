-- How those who are at work on a table stand to its log: transactions and jobs that make checkpoints.
use Rattle.std.specs.Prelude.{◌≡◌, ℕ, ℤ, ◌+◌, ◌%◌, ◌^◌, ◌<◌, ◌≤◌, ◌≤ℤ◌, List, [], ◌∷◌, ◌++◌, Option, Some, None, suc, slice_get, Contains}
use Rattle.dk_model.specs.declared.action.Action.{Action}
use Rattle.dk_model.specs.declared.state.TableState.{TableState}
use Rattle.dk_model.specs.CommitText.{commit_of}
use Rattle.dk_store.specs.Told.{Told, Made, Over, Deleted, Ratified, Forgotten}
use Rattle.dk_paths.specs.Numbers.{id_text}
use Rattle.dk_paths.specs.Places.{Place, Sidecar, Staged, place_of, sidecar_name}
use Rattle.dk_lawful.specs.Present.{Holds, AtMostPublished}
use Rattle.dk_lawful.specs.History.{history, next_version, commits_before, table_at}
use Rattle.dk_lawful.specs.Rules.{IsValidNext}
use Rattle.dk_lawful.specs.Agree.{Agree}
use Rattle.dk_lawful.specs.Checkpoints.{SideMeans}
use Rattle.dk_lawful.specs.Contents.{sidecar_content}
use Rattle.dk_lawful.specs.Ids.{HasId, StandsOnce, StandsNowhere, AddOnce, AddNone}
use Rattle.dk_lawful.specs.Transacted.{transacted}
use Rattle.dk_lawful.specs.Lawful.{Lawful}

-- ---- transactions

pub record Snapshot : Type 0 where
  pub version : ℕ
  pub state : TableState

-- a staged commit that a transaction made for itself, by its version and its UUID, with no action put after it
pub record OwnStaged : Type 0 where
  pub version : ℕ
  pub uuid : ℕ

-- its id, the snapshot that it began with, the actions put so far, its staged commit, and the version that it answered
pub record Transaction : Type 0 where
  pub id : ℕ
  pub snapshot : Option Snapshot
  pub put : List Action
  pub own : Option OwnStaged
  pub answered : Option ℕ

-- what it commits at a moment, as a version of a history
abbrev pub commit_by : Transaction → List (List Action) → ℤ → List Action
commit_by t commits now = transacted commits now (id_text t.id) t.put

-- its staged commit was made at some moment, may come next after the versions below its own, and means that commit where the object stands
pub record OwnFits (events : List Told) (t : Transaction) (own : OwnStaged) : Type 0 where
  pub below : own.version ≤ next_version events
  pub moment : ℤ
  pub valid : IsValidNext (commits_before events own.version) (commit_by t (commits_before events own.version) moment)
  pub means : (bytes : List ℕ) → Holds events (Staged own.version own.uuid) bytes → commit_of bytes ≡ Some (commit_by t (commits_before events own.version) moment)

-- Its snapshot is of a version of the history and agrees with the state there. Its id stands at most once, after that version, and
-- the version that it answered has it.
pub record TransactionFits (events : List Told) (horizon : ℤ) (t : Transaction) : Type 0 where
  pub known : (s : Snapshot) → t.snapshot ≡ Some s → s.version < next_version events
  pub agrees : (s : Snapshot) → t.snapshot ≡ Some s → Agree s.state (table_at events s.version) horizon
  pub later : (s : Snapshot) → t.snapshot ≡ Some s → (version : ℕ) → HasId (history events) version (id_text t.id) → s.version < version
  pub once : StandsOnce events (id_text t.id)
  pub has_answered : (version : ℕ) → t.answered ≡ Some version → HasId (history events) version (id_text t.id)
  pub staged : (own : OwnStaged) → t.own ≡ Some own → OwnFits events t own

-- ---- jobs

-- a checkpoint under way: its version, the state that was opened there, the cut of tombstones, how many sidecars it gets, and the names
-- of those that it has recorded, from the first on
pub record Job : Type 0 where
  pub version : ℕ
  pub state : TableState
  pub cut : ℤ
  pub count : ℕ
  pub sidecars : List (List ℕ)

-- Its version is published, its state agrees with that of the version, and a sidecar that it has recorded means, where it stands, what
-- is to be written of it.
pub record JobFits (events : List Told) (horizon : ℤ) (job : Job) : Type 0 where
  pub published : AtMostPublished events job.version
  pub agrees : Agree job.state (table_at events job.version) horizon
  pub within : job.cut ≤ℤ horizon
  pub means : (before : ℕ) (name : List ℕ) → slice_get job.sidecars before ≡ Some name → (bytes : List ℕ) → Holds events (Sidecar name) bytes
      → SideMeans bytes (sidecar_content job.state job.cut (suc before) job.count)

-- ---- all of them

-- The ids are drawn by counting up from a base, modulo 2 to the 128.
abbrev pub drawn : ℕ → ℕ → ℕ
drawn base count = (base + count) % 2 ^ 128

pub record Actors : Type 0 where
  pub base : ℕ
  pub count : ℕ
  pub transactions : List Transaction
  pub jobs : List Job

-- no two of them have one id
abbrev pub AreApart : List Transaction → Type 0
AreApart transactions = (place other : ℕ) (t u : Transaction) → slice_get transactions place ≡ Some t → slice_get transactions other ≡ Some u → t.id ≡ u.id → place ≡ other

-- an id that was drawn
abbrev pub IsDrawn : Actors → ℕ → Type 0
IsDrawn actors id = (count : ℕ) × (count < actors.count) × (id ≡ drawn actors.base count)

-- those of a transaction and of its staged commit, and of the sidecars of a job, were drawn
pub record HasDrawn (actors : Actors) (t : Transaction) : Type 0 where
  pub id : IsDrawn actors t.id
  pub staged : (own : OwnStaged) → t.own ≡ Some own → IsDrawn actors own.uuid

abbrev pub HasDrawnSidecars : Actors → Job → Type 0
HasDrawnSidecars actors job = (before : ℕ) (name : List ℕ) → slice_get job.sidecars before ≡ Some name → (id : ℕ) × IsDrawn actors id × (name ≡ sidecar_name id)

-- All of them fit, and their ids were drawn; those of two transactions differ. Each id that can be drawn stands at most once in the
-- history, and none that is still to be drawn stands there.
pub record Fits (events : List Told) (horizon : ℤ) (actors : Actors) : Type 0 where
  pub transactions : (t : Transaction) → Contains actors.transactions t → TransactionFits events horizon t
  pub jobs : (job : Job) → Contains actors.jobs job → JobFits events horizon job
  pub ids : (t : Transaction) → Contains actors.transactions t → HasDrawn actors t
  pub sidecar_ids : (job : Job) → Contains actors.jobs job → HasDrawnSidecars actors job
  pub apart : AreApart actors.transactions
  pub once : (count : ℕ) → count < 2 ^ 64 → StandsOnce events (id_text (drawn actors.base count))
  pub unused : (count : ℕ) → actors.count ≤ count → count < 2 ^ 64 → StandsNowhere events (id_text (drawn actors.base count))

-- ---- what others do

-- the event writes an object at this place
abbrev pub Writes : Told → Place → Type 0
Writes (Made path bytes stamp) place = place_of path ≡ place
Writes (Over path bytes stamp) place = place_of path ≡ place
Writes (Deleted path) place = ⊥
Writes (Ratified version name) place = ⊥
Writes (Forgotten upto) place = ⊥

-- none of these events does
abbrev pub LeaveUnwritten : List Told → Place → Type 0
LeaveUnwritten [] place = Unit {0}
LeaveUnwritten (event ∷ newer) place = (Writes event place → ⊥) × LeaveUnwritten newer place

-- the newer events are others' for this transaction: they add no commit with its id, and don't write its staged commit
pub record AreOthers (newer events : List Told) (t : Transaction) : Type 0 where
  pub id : AddNone newer events (id_text t.id)
  pub staged : (own : OwnStaged) → t.own ≡ Some own → LeaveUnwritten newer (Staged own.version own.uuid)

-- and for this job: they don't write the sidecars that it has recorded
abbrev pub AreOthersToJob : List Told → Job → Type 0
AreOthersToJob newer job = (before : ℕ) (name : List ℕ) → slice_get job.sidecars before ≡ Some name → LeaveUnwritten newer (Sidecar name)

-- the newer events add no commit with an id that is still to be drawn
abbrev pub LeaveUnused : List Told → List Told → Actors → Type 0
LeaveUnused newer events actors = (count : ℕ) → actors.count ≤ count → count < 2 ^ 64 → AddNone newer events (id_text (drawn actors.base count))

-- and each of them adds a commit with an id that was drawn only to a history without it
abbrev pub AddDrawnOnce : List Told → List Told → Actors → Type 0
AddDrawnOnce newer events actors = (count : ℕ) → count < actors.count → AddOnce newer events (id_text (drawn actors.base count))

-- ---- the laws

-- What others do leaves a transaction fit, and a job, on a lawful log; deletions of what they have recorded among it.
abbrev pub TransactionsStayFit : Type 0
TransactionsStayFit = (newer events : List Told) (horizon : ℤ) (t : Transaction) → AreOthers newer events t → TransactionFits events horizon t
    → TransactionFits (newer ++ events) horizon t

abbrev pub JobsStayFit : Type 0
JobsStayFit = (newer events : List Told) (horizon : ℤ) (job : Job) → Lawful (newer ++ events) horizon → AreOthersToJob newer job → JobFits events horizon job
    → JobFits (newer ++ events) horizon job

-- so it leaves all of them fit
abbrev pub OthersStayFit : Type 0
OthersStayFit = (newer events : List Told) (horizon : ℤ) (actors : Actors) → Lawful (newer ++ events) horizon
    → ((t : Transaction) → Contains actors.transactions t → AreOthers newer events t)
    → ((job : Job) → Contains actors.jobs job → AreOthersToJob newer job)
    → AddDrawnOnce newer events actors → LeaveUnused newer events actors → Fits events horizon actors → Fits (newer ++ events) horizon actors

-- a greater horizon leaves them fit
abbrev pub GreaterHorizonFits : Type 0
GreaterHorizonFits = (events : List Told) (horizon greater : ℤ) (actors : Actors) → horizon ≤ℤ greater → Fits events horizon actors → Fits events greater actors

-- at the start, with nobody at work, where no id that will be drawn stands in the history
abbrev pub nobody : ℕ → Actors
nobody base = record { base = base; count = 0; transactions = []; jobs = [] }

abbrev pub NobodyFits : Type 0
NobodyFits = (events : List Told) (horizon : ℤ) (base : ℕ) → ((count : ℕ) → count < 2 ^ 64 → StandsNowhere events (id_text (drawn base count))) → Fits events horizon (nobody base)

-- ---- how a transaction begins and goes on

-- what was opened of a version of the history
pub record IsOpened (events : List Told) (horizon : ℤ) (snapshot : Snapshot) : Type 0 where
  pub known : snapshot.version < next_version events
  pub agrees : Agree snapshot.state (table_at events snapshot.version) horizon

abbrev pub begun : ℕ → Option Snapshot → Transaction
begun id snapshot = record { id = id; snapshot = snapshot; put = []; own = None; answered = None }

-- actions put behind those that it has; its staged commit isn't its own any more
abbrev pub put_behind : Transaction → List Action → Transaction
put_behind t actions = record t { put = t.put ++ actions; own = None }

-- a transaction that begins with an id that stands nowhere is fit
abbrev pub BegunFits : Type 0
BegunFits = (events : List Told) (horizon : ℤ) (id : ℕ) (snapshot : Option Snapshot) → ((s : Snapshot) → snapshot ≡ Some s → IsOpened events horizon s)
    → StandsNowhere events (id_text id) → TransactionFits events horizon (begun id snapshot)

-- so is one that actions are put to
abbrev pub PutStaysFit : Type 0
PutStaysFit = (events : List Told) (horizon : ℤ) (t : Transaction) (actions : List Action) → TransactionFits events horizon t → TransactionFits events horizon (put_behind t actions)

-- the next id is drawn, and a transaction begins with it
abbrev pub with_begun : Actors → Option Snapshot → Actors
with_begun actors snapshot = record actors { count = suc actors.count; transactions = begun (drawn actors.base actors.count) snapshot ∷ actors.transactions }

abbrev pub AllFitWithBegun : Type 0
AllFitWithBegun = (events : List Told) (horizon : ℤ) (actors : Actors) (snapshot : Option Snapshot) → actors.count < 2 ^ 64
    → ((s : Snapshot) → snapshot ≡ Some s → IsOpened events horizon s) → Fits events horizon actors → Fits events horizon (with_begun actors snapshot)
