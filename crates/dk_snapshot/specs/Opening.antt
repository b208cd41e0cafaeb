-- A version of a table, by the events of the store alone.
use Rattle.std.specs.Prelude.{ℕ, ℤ, true, false, List, Option, Result, Ok, Err}
use Rattle.dk_store.specs.Told.{Told}
use Rattle.dk_store.specs.Standings.{standing}
use Rattle.dk_model.specs.declared.action.Action.{Action}
use Rattle.dk_model.specs.declared.state.TableState.{TableState}
use Rattle.dk_model.specs.State.{fold}
use Rattle.dk_lawful.specs.declared.segment.Checkpoints.TheVariants.{Newest}
use Rattle.dk_lawful.specs.declared.segment.Choice.{Choice}
use Rattle.dk_lawful.specs.declared.segment.Segment.{Segment}
use Rattle.dk_engine.specs.declared.limits.Limits.{Limits}
use Rattle.dk_engine.specs.declared.refusal.Refusal.{Refusal}
use Rattle.dk_listing.specs.OfEvents.{stands_at, latest}
use Rattle.dk_segment.specs.Chosen.{chosen}
use Rattle.dk_snapshot.specs.declared.table.Snapshot.{Snapshot}
use Rattle.dk_snapshot.specs.Asked.{version_asked}
use Rattle.dk_snapshot.specs.Steps.{commits_of_steps, oldest_path}
use Rattle.dk_snapshot.specs.Support.{cut_of}

-- the choice under which versions are opened usually
abbrev pub usual_choice : Choice
usual_choice = record { checkpoints = Newest; compacted = true; staged_first = false }

-- ---- what is read from a segment

abbrev pub with_cut : TableState → Result ℤ Refusal → Result (TableState × ℤ) Refusal
with_cut state (Ok cut) = Ok (state, cut)
with_cut state (Err refusal) = Err refusal

-- a state and its cut, if it is one that is read; the oldest object has this path
abbrev pub state_read : List ℕ → ℤ → TableState → Result (TableState × ℤ) Refusal
state_read oldest now state = with_cut state (cut_of oldest state now)

-- the state that these commits make up
abbrev pub state_of_commits : List ℕ → ℤ → Result (List (List Action)) Refusal → Result (TableState × ℤ) Refusal
state_of_commits oldest now (Ok commits) = state_read oldest now (fold commits)
state_of_commits oldest now (Err refusal) = Err refusal

abbrev pub read_of : List Told → Limits → ℤ → Segment → Result (TableState × ℤ) Refusal
read_of events limits now segment = state_of_commits (oldest_path segment) now (commits_of_steps events limits.object segment.steps)

-- ---- a version

abbrev pub snapshot_with : ℕ → Segment → Result (TableState × ℤ) Refusal → Result Snapshot Refusal
snapshot_with version segment (Ok read) = Ok (record { version = version; state = read.0; cut = read.1; segment = segment })
snapshot_with version segment (Err refusal) = Err refusal

-- the version that is read from a segment
abbrev pub opened_segment : List Told → Limits → ℤ → ℕ → Segment → Result Snapshot Refusal
opened_segment events limits now version segment = snapshot_with version segment (read_of events limits now segment)

abbrev pub opened_chosen : List Told → Limits → ℤ → ℕ → Result Segment Refusal → Result Snapshot Refusal
opened_chosen events limits now version (Ok segment) = opened_segment events limits now version segment
opened_chosen events limits now version (Err refusal) = Err refusal

-- a version under a choice
abbrev pub opened_version : List Told → Limits → Choice → ℤ → ℕ → Result Snapshot Refusal
opened_version events limits choice now version = opened_chosen events limits now version (chosen (stands_at events) (standing events) version choice)

abbrev pub opened_asked : List Told → Limits → Choice → ℤ → Result ℕ Refusal → Result Snapshot Refusal
opened_asked events limits choice now (Ok version) = opened_version events limits choice now version
opened_asked events limits choice now (Err refusal) = Err refusal

-- the asked version, or the latest one; or the first refusal on the way to it
abbrev pub opened : List Told → Limits → Option ℕ → Choice → ℤ → Result Snapshot Refusal
opened events limits at choice now = opened_asked events limits choice now (version_asked at (latest events))
