-- The walk over the versions, one by one.
use Rattle.std.specs.Prelude.{ℕ, suc, Bool, ◌<◌, ◌^◌, Option, Some, None, Result, Ok, Err, List}
use Rattle.dk_paths.specs.Names.{commit_path}
use Rattle.dk_paths.specs.Places.{Place, Commit_at, Staged}
use Rattle.dk_lawful.specs.declared.segment.Step.{Step}
use Rattle.dk_lawful.specs.Segments.{commit_place, step_at, walked_to, gap_to, commit_step, compacted_step, steps_from, gap_from}
use Rattle.dk_engine.specs.declared.refusal.Refusal.{Refusal}
use Rattle.dk_engine.specs.declared.refusal.Refusal.TheVariants.{Missing}
use Rattle.std.specs.Ordering.{nat_cmp}
use Rattle.std.specs.BTreeMap.{BTreeMap, get}
use Rattle.dk_segment.specs.declared.commit_index.CommitIndex.{CommitIndex}
use Rattle.dk_segment.specs.declared.commit_index.CommitObject.{CommitObject}
use Rattle.dk_segment.specs.declared.commit_index.CommitObject.TheVariants as objects
use Rattle.dk_segment.specs.declared.stepping.Found.{Found}
use Rattle.dk_segment.specs.declared.stepping.Found.TheVariants as founds
use Rattle.dk_segment.specs.CommitIndex.{has_place, name_ratified_for}

-- the place of the object that a version is read from
abbrev pub object_place : ℕ → CommitObject → Place
object_place version objects.Published = Commit_at version
object_place version (objects.Staged id) = Staged version id

abbrev pub unless_absent : List Step → Option ℕ → Result (List Step) Refusal
unless_absent steps None = Ok steps
unless_absent steps (Some version) = Err (Missing (commit_path version))

-- the steps of so many versions, from one on, or the first of them whose commit isn't there
abbrev pub walked : (ℕ → Option Place) → ℕ → ℕ → Result (List Step) Refusal
walked place_at first count = unless_absent (steps_from place_at first count) (gap_from place_at first count)

-- ---- by compacted files too

-- the step of what was found for a version
abbrev pub step_found : ℕ → Found → Step
step_found version (founds.Object object) = commit_step version (object_place version object)
step_found version (founds.Compacted last) = compacted_step version last

-- its path can be written
abbrev pub CanBeWritten : ℕ → Found → Type 0
CanBeWritten version (founds.Object object) = Unit {0}
CanBeWritten version (founds.Compacted last) = (version < last) × (last < 2 ^ 63)

-- what is read for each version, by what is known of a listing
abbrev pub steps_known : CommitIndex → BTreeMap ℕ ℕ → Bool → ℕ → Option Step
steps_known commits reaches staged_first version = step_at (get nat_cmp reaches) (commit_place (has_place commits) (name_ratified_for commits) staged_first) version

-- the steps from a version on up to the asked one, or the first version for which there is none
abbrev pub stepped : (ℕ → Option Step) → ℕ → ℕ → Result (List Step) Refusal
stepped at asked first = unless_absent (walked_to at asked first (suc asked)) (gap_to at asked first (suc asked))
