-- Checkpoints in Parquet after the example: in one object, in parts, and in the form V2 with a sidecar.
use Rattle.std.specs.Prelude.{ℕ, pos, true, false, List, ◌∷◌, ◌++◌, codes}
use Rattle.dk_model.specs.declared.action.Action.{Action}
use Rattle.dk_model.specs.declared.action.Action.TheVariants as action
use Rattle.dk_store.specs.Told.{Told, Made, Deleted}
use Rattle.dk_paths.specs.Names.{commit_path}
use Rattle.dk_paths.specs.Places.{Classic, Part, V2, Sidecar, place_path}
use Rattle.dk_lawful.specs.CheckpointExample.{mark_text_1, side_text}
use Rattle.dk_lawful.specs.Example.{first_text}
use Rattle.dk_lawful.specs.MoreExamples.{side_name}
use Rattle.dk_ckread.specs.ParquetFiles.{head_file, add_file, top_file}

-- of the first version
abbrev pub in_one_object : List Told → List Told
in_one_object events = Made (place_path (Classic 0)) head_file (pos 2) ∷ events

-- Both parts of a checkpoint of the second version, perhaps by two writers; then the first commit may go.
abbrev pub first_part : List Told → List Told
first_part events = Made (place_path (Part 1 1 2)) head_file (pos 2) ∷ events

abbrev pub in_parts : List Told → List Told
in_parts events = Made (place_path (Part 1 2 2)) add_file (pos 3) ∷ first_part events

abbrev pub parts_in_use : List Told → List Told
parts_in_use events = Deleted (commit_path 0) ∷ in_parts events

-- one of the second version whose files stand in a sidecar
abbrev pub sidecar_made : List Told → List Told
sidecar_made events = Made (place_path (Sidecar side_name)) add_file (pos 2) ∷ events

abbrev pub top_text : List ℕ
top_text = mark_text_1 ++ (first_text ++ side_text)

abbrev pub with_sidecar : List Told → List Told
with_sidecar events = Made (place_path (V2 1 7 true)) top_text (pos 3) ∷ sidecar_made events

-- one of the form V2 in Parquet, of the first version
abbrev pub top_in_parquet : List Told → List Told
top_in_parquet events = Made (place_path (V2 0 7 false)) top_file (pos 2) ∷ events

-- what the file of a sidecar's name means
abbrev pub side_alone : Action
side_alone = action.Sidecar (record { path = codes "s.parquet"; size = pos 1; stamp = pos 2 })
