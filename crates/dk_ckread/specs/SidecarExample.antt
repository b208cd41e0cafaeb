-- What becomes of a sidecar after the checkpoint that names it, and a sidecar that has other rows than those of files.
use Rattle.std.specs.Prelude.{ℕ, pos, true, List, [], ◌∷◌, ◌++◌}
use Rattle.dk_model.specs.declared.action.Action.{Action}
use Rattle.dk_store.specs.Told.{Told, Made, Deleted}
use Rattle.dk_paths.specs.Names.{commit_path}
use Rattle.dk_paths.specs.Places.{V2, Sidecar, place_path}
use Rattle.dk_lawful.specs.BacklogExample.{mark_text_2}
use Rattle.dk_lawful.specs.BrokenRules.{informing_text}
use Rattle.dk_lawful.specs.CheckpointExample.{mark_text_1, side_text, side_action}
use Rattle.dk_lawful.specs.Contents.{mark}
use Rattle.dk_lawful.specs.Example.{first_text, first_actions, second_text, second_actions}
use Rattle.dk_lawful.specs.MoreExamples.{side_name}
use Rattle.dk_ckread.specs.ParquetExample.{with_sidecar}
use Rattle.dk_ckread.specs.ParquetFiles.{head_file}

-- a further commit, and its checkpoint, which names no sidecar
abbrev pub informed : List Told → List Told
informed events = Made (commit_path 2) informing_text (pos 4) ∷ with_sidecar events

abbrev pub newer_text : List ℕ
newer_text = mark_text_2 ++ (first_text ++ second_text)

abbrev pub newer_actions : List Action
newer_actions = mark 2 ∷ (first_actions ++ second_actions)

abbrev pub renewed : List Told → List Told
renewed events = Made (place_path (V2 2 8 true)) newer_text (pos 5) ∷ informed events

-- the older checkpoint goes, and then its sidecar
abbrev pub older_gone : List Told → List Told
older_gone events = Deleted (place_path (V2 1 7 true)) ∷ renewed events

abbrev pub sidecar_gone : List Told → List Told
sidecar_gone events = Deleted (place_path (Sidecar side_name)) ∷ older_gone events

-- a sidecar that has the protocol and the metadata, and a checkpoint that would be whole with it
abbrev pub other_sidecar : List Told → List Told
other_sidecar events = Made (place_path (Sidecar side_name)) head_file (pos 2) ∷ events

abbrev pub other_text : List ℕ
other_text = mark_text_1 ++ (second_text ++ side_text)

abbrev pub other_actions : List Action
other_actions = mark 1 ∷ (second_actions ++ side_action ∷ [])
