-- What a version of the table may open as, by the events of the store: a relation with one value, since what a checkpoint means is one
-- (Delta Lake's PROTOCOL.md, "Delta Log Entries", "Checkpoints", "Action Reconciliation").
use Rattle.std.specs.Prelude.{ℕ, ℤ, ◌≡◌, List, Option, Result, Ok, Err}
use Rattle.dk_store.specs.Told.{Told}
use Rattle.dk_store.specs.Standings.{standing}
use Rattle.dk_model.specs.declared.action.Action.{Action}
use Rattle.dk_model.specs.declared.state.TableState.{TableState}
use Rattle.dk_model.specs.State.{empty_state, steps, steps_of_all}
use Rattle.dk_lawful.specs.declared.segment.Choice.{Choice}
use Rattle.dk_lawful.specs.declared.segment.Segment.{Segment}
use Rattle.dk_engine.specs.declared.limits.Limits.{Limits}
use Rattle.dk_engine.specs.declared.refusal.Refusal.{Refusal}
use Rattle.dk_listing.specs.OfEvents.{stands_at, latest}
use Rattle.dk_segment.specs.Chosen.{chosen}
use Rattle.dk_snapshot.specs.declared.table.Snapshot.{Snapshot}
use Rattle.dk_snapshot.specs.Asked.{version_asked}
use Rattle.dk_snapshot.specs.Bases.{BaseIsRead}
use Rattle.dk_snapshot.specs.Opening.{snapshot_with, state_read}
use Rattle.dk_snapshot.specs.Steps.{commits_of_steps, oldest_path}

-- ---- what is read from a segment

-- the commits are read first, from the newest on, and the base then
abbrev pub state_over : List ℕ → ℤ → List (List Action) → Result (List Action) Refusal → Result (TableState × ℤ) Refusal
state_over oldest now commits (Ok base) = state_read oldest now (steps_of_all (steps empty_state base) commits)
state_over oldest now commits (Err refusal) = Err refusal

abbrev pub state_behind : List ℕ → ℤ → Result (List Action) Refusal → Result (List (List Action)) Refusal → Result (TableState × ℤ) Refusal
state_behind oldest now base (Ok commits) = state_over oldest now commits base
state_behind oldest now base (Err refusal) = Err refusal

-- the version that is read from a segment whose base is read so
abbrev pub opened_over : List Told → Limits → ℤ → ℕ → Segment → Result (List Action) Refusal → Result Snapshot Refusal
opened_over events limits now version segment base =
    snapshot_with version segment (state_behind (oldest_path segment) now base (commits_of_steps events limits.object segment.steps))

abbrev pub OpensFrom : List Told → Limits → ℤ → ℕ → Segment → Result Snapshot Refusal → Type 0
OpensFrom events limits now version segment result =
    (base : Result (List Action) Refusal) × BaseIsRead events limits segment.base base × (result ≡ opened_over events limits now version segment base)

-- ---- a version

abbrev pub OpensChosen : List Told → Limits → ℤ → ℕ → Result Segment Refusal → Result Snapshot Refusal → Type 0
OpensChosen events limits now version (Ok segment) result = OpensFrom events limits now version segment result
OpensChosen events limits now version (Err refusal) result = result ≡ Err refusal

abbrev pub OpensAsked : List Told → Limits → Choice → ℤ → Result ℕ Refusal → Result Snapshot Refusal → Type 0
OpensAsked events limits choice now (Ok version) result = OpensChosen events limits now version (chosen (stands_at events) (standing events) version choice) result
OpensAsked events limits choice now (Err refusal) result = result ≡ Err refusal

-- the asked version, or the latest one, may open as this; or it is refused so
abbrev pub Opens : List Told → Limits → Option ℕ → Choice → ℤ → Result Snapshot Refusal → Type 0
Opens events limits at choice now result = OpensAsked events limits choice now (version_asked at (latest events)) result

-- ---- the laws

-- it opens as something, and as one thing alone
abbrev pub OpensAsSome : Type 0
OpensAsSome = (events : List Told) (limits : Limits) (at : Option ℕ) (choice : Choice) (now : ℤ) → (result : Result Snapshot Refusal) × Opens events limits at choice now result

abbrev pub OpensAsOne : Type 0
OpensAsOne = (events : List Told) (limits : Limits) (at : Option ℕ) (choice : Choice) (now : ℤ) (one other : Result Snapshot Refusal) → Opens events limits at choice now one → Opens events limits at choice now other
    → one ≡ other
