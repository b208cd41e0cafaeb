-- What the objects of a segment mean, by the events of the store alone.
use Rattle.std.specs.Prelude.{ℕ, ◌≡◌, List, map, [], ◌∷◌, Option, Some, None, Result, Ok, Err, nat_lt, reverse, if◌then◌else◌}
use Rattle.dk_store.specs.Told.{Told}
use Rattle.dk_store.specs.Objects.{content}
use Rattle.dk_model.specs.declared.action.Action.{Action}
use Rattle.dk_lawful.specs.declared.segment.CheckpointRef.{CheckpointRef}
use Rattle.dk_lawful.specs.declared.segment.CheckpointRef.TheVariants as checkpoint
use Rattle.dk_lawful.specs.declared.segment.Segment.{Segment}
use Rattle.dk_lawful.specs.declared.segment.Step.{Step}
use Rattle.dk_lawful.specs.declared.segment.Step.TheVariants.{Commit, Compacted}
use Rattle.dk_engine.specs.declared.limits.Which.TheVariants.{Object}
use Rattle.dk_engine.specs.declared.refusal.Refusal.{Refusal}
use Rattle.dk_engine.specs.declared.refusal.Refusal.TheVariants.{Limit}
use Rattle.dk_listing.specs.Sizes.{stored_size}
use Rattle.dk_snapshot.specs.Log.{commit_of_object, newest_behind}
use Rattle.dk_snapshot.specs.Support.{first_commit}

abbrev pub step_path : Step → List ℕ
step_path (Commit version path) = path
step_path (Compacted first last path) = path

-- the path of the first step; where there is none a version would begin with the first commit
abbrev pub first_step : List Step → List ℕ
first_step [] = first_commit
first_step (step ∷ steps) = step_path step

-- the path of the first part; no checkpoint has none
abbrev pub first_part : List (List ℕ) → List ℕ
first_part [] = first_commit
first_part (path ∷ paths) = path

-- the path of the first object of what the steps go on from, or else that of the first step
abbrev pub oldest_object : Option CheckpointRef → List Step → List ℕ
oldest_object None steps = first_step steps
oldest_object (Some (checkpoint.Classic version path)) steps = path
oldest_object (Some (checkpoint.Parts version parts paths)) steps = first_part paths
oldest_object (Some (checkpoint.V2 version path json)) steps = path

-- the path of the oldest object of a segment
abbrev pub oldest_path : Segment → List ℕ
oldest_path segment = oldest_object segment.base segment.steps

-- an object over the limit isn't read
abbrev pub fits : ℕ → Option ℕ → Result (Unit {0}) Refusal
fits limit None = Ok tt
fits limit (Some size) = if nat_lt limit size then Err (Limit Object size) else Ok tt

abbrev pub if_fits : {X : Type 0} → Result (Unit {0}) Refusal → Result X Refusal → Result X Refusal
if_fits (Ok u) meaning = meaning
if_fits (Err refusal) meaning = Err refusal

-- what the object at a path means as a commit: its size is tested first, then its presence
abbrev pub commit_at_path : List Told → ℕ → List ℕ → Result (List Action) Refusal
commit_at_path events limit path = if_fits (fits limit (stored_size events path)) (commit_of_object path (content events path))

-- the commits of steps that stand newest first, oldest first; or the first refusal from the newest on
abbrev pub commits_back : List Told → ℕ → List Step → Result (List (List Action)) Refusal
commits_back events limit [] = Ok []
commits_back events limit (step ∷ older) = newest_behind (commit_at_path events limit (step_path step)) (commits_back events limit older)

-- the commits of steps that stand oldest first
abbrev pub commits_of_steps : List Told → ℕ → List Step → Result (List (List Action)) Refusal
commits_of_steps events limit steps = commits_back events limit (reverse steps)

-- these are the sizes of what stands at the steps
abbrev pub AreSized : List Told → List Step → List (Option ℕ) → Type 0
AreSized events steps sizes = sizes ≡ map (λ step. stored_size events (step_path step)) steps
