-- What a version is read from, or the commit that is missing.
use Rattle.std.specs.Prelude.{ℕ, Bool, Option, Some, None, Result, Ok, Err, List}
use Rattle.dk_paths.specs.Places.{Place}
use Rattle.dk_lawful.specs.declared.segment.Choice.{Choice}
use Rattle.dk_lawful.specs.declared.segment.Segment.{Segment}
use Rattle.dk_lawful.specs.Segments.{segment_of, first_gap, commit_segment, commit_gap}
use Rattle.dk_engine.specs.declared.refusal.Refusal.{Refusal}
use Rattle.dk_engine.specs.declared.refusal.Refusal.TheVariants.{Missing, OutOfMemory}

abbrev pub unless_gap : Segment → Option (List ℕ) → Result Segment Refusal
unless_gap segment None = Ok segment
unless_gap segment (Some path) = Err (Missing path)

-- the segment of a version under a choice, where nothing that it needs is missing; else the path of the first commit that is
abbrev pub chosen_segment : List Place → (ℕ → Option (List ℕ)) → ℕ → Choice → Result Segment Refusal
chosen_segment places ratified version choice = unless_gap (segment_of places ratified version choice) (first_gap places ratified version choice)

-- the same where no checkpoint and no compacted file is chosen
abbrev pub chosen : (Place → Bool) → (ℕ → Option (List ℕ)) → ℕ → Choice → Result Segment Refusal
chosen present ratified version choice = unless_gap (commit_segment present ratified version choice) (commit_gap present ratified version choice)

-- the only refusals: a commit is missing, or memory was refused
abbrev pub ChooseRefuses : Refusal → Type 0
ChooseRefuses (Missing path) = Unit {0}
ChooseRefuses OutOfMemory = Unit {0}
ChooseRefuses refusal = ⊥
