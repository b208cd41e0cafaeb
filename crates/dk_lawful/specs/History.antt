-- The history that a list of events means: the ratified commits, oldest first, each with the way by which it came
-- (Delta Lake's PROTOCOL.md, "Delta Log Entries", "Catalog-managed tables").
use Rattle.std.specs.Prelude.{ℕ, suc, Bool, not, ◌==◌, ◌&&◌, List, [], ◌∷◌, ◌++◌, Option, Some, None, IsSome, map, length, take, ◌+◌, option_and_then, if◌then◌else◌}
use Rattle.dk_model.specs.declared.action.Action.{Action}
use Rattle.dk_model.specs.declared.state.TableState.{TableState}
use Rattle.dk_model.specs.CommitText.{commit_of}
use Rattle.dk_model.specs.State.{empty_state, steps, fold}
use Rattle.dk_store.specs.Told.{Told, Made, Over, Deleted, Ratified, Forgotten}
use Rattle.dk_paths.specs.Places.{Place, Commit_at, place_of}
use Rattle.dk_lawful.specs.Present.{staged_bytes}
use Rattle.dk_lawful.specs.Managed.{is_managed}

-- as an object of its own at the version's path, or staged and then ratified by the catalogue
pub data Way : Type 0 where
  By_file : Way
  By_catalogue : Way

pub record RatifiedCommit : Type 0 where
  pub way : Way
  pub actions : List Action

abbrev pub by_file : List Action → RatifiedCommit
by_file actions = record { way = By_file; actions = actions }

abbrev pub by_catalogue : List Action → RatifiedCommit
by_catalogue actions = record { way = By_catalogue; actions = actions }

-- what the commits of a history did, and the state that this leads to
abbrev pub commits_of : List RatifiedCommit → List (List Action)
commits_of history = map (λ c. c.actions) history

abbrev pub state_of : List RatifiedCommit → TableState
state_of history = fold (commits_of history)

-- a table that isn't managed goes on by files, a managed one by its catalogue
abbrev pub goes_on_by : Way → TableState → Bool
goes_on_by By_file state = not (is_managed state)
goes_on_by By_catalogue state = is_managed state

-- the history, and one more commit where that is the next version, comes by the way that the table goes on by, and means something
abbrev pub longer : List RatifiedCommit → Way → ℕ → Option (List Action) → List RatifiedCommit
longer history way version None = history
longer history way version (Some actions) =
    if version == length history && goes_on_by way (state_of history) then history ++ record { way = way; actions = actions } ∷ [] else history

-- the history after an object was made
abbrev pub after_made : List RatifiedCommit → Place → List ℕ → List RatifiedCommit
after_made history (Commit_at version) bytes = longer history By_file version (commit_of bytes)
after_made history _ bytes = history

-- what the staged object of a name means by now
abbrev pub staged_commit : List Told → List ℕ → Option (List Action)
staged_commit events name = option_and_then commit_of (staged_bytes events name)

-- A made object of the next version's path adds its commit, by file, and a ratification of the next version adds the commit
-- of the staged object that it names. Nothing else adds, and nothing takes away.
abbrev pub history : List Told → List RatifiedCommit
history [] = []
history (Made path bytes stamp ∷ events) = after_made (history events) (place_of path) bytes
history (Ratified version name ∷ events) = longer (history events) By_catalogue version (staged_commit events name)
history (Over path bytes stamp ∷ events) = history events
history (Deleted path ∷ events) = history events
history (Forgotten upto ∷ events) = history events

-- the state of the table, and the version that comes next
abbrev pub table : List Told → TableState
table events = state_of (history events)

abbrev pub next_version : List Told → ℕ
next_version events = length (history events)

-- the state at a version
abbrev pub table_at : List Told → ℕ → TableState
table_at events version = fold (take (version + 1) (commits_of (history events)))

-- the commits before it, and that state
abbrev pub commits_before : List Told → ℕ → List (List Action)
commits_before events version = take version (commits_of (history events))

abbrev pub table_before : List Told → ℕ → TableState
table_before events version = fold (commits_before events version)

-- the first version whose state is managed, if there is one: all later versions come by the catalogue
abbrev pub managed_from : TableState → ℕ → List (List Action) → Option ℕ
managed_from state version [] = None
managed_from state version (commit ∷ later) = if is_managed (steps state commit) then Some version else managed_from (steps state commit) (suc version) later

abbrev pub managed_since : List Told → Option ℕ
managed_since events = managed_from empty_state 0 (commits_of (history events))

-- a state of a table that has begun
pub record HasHeads (state : TableState) : Type 0 where
  pub protocol : IsSome state.protocol
  pub metadata : IsSome state.metadata
