-- Checkpoints of the form V2 in JSON after the example, and objects that are none.
use Rattle.std.specs.Prelude.{ℕ, pos, true, List, [], ◌∷◌, ◌++◌, codes}
use Rattle.dk_model.specs.declared.action.Action.{Action}
use Rattle.dk_model.specs.declared.action.Action.TheVariants as action
use Rattle.dk_store.specs.Told.{Told, Made, Deleted}
use Rattle.dk_paths.specs.Names.{commit_path}
use Rattle.dk_paths.specs.Places.{V2, Compacted, Sidecar, place_path}
use Rattle.dk_lawful.specs.Floor.{FromFloor}
use Rattle.dk_lawful.specs.BrokenRules.{sidecar_text, sidecar_actions}
use Rattle.dk_lawful.specs.Contents.{mark}
use Rattle.dk_lawful.specs.Example.{first_text, first_actions, second_text, second_actions, example}
use Rattle.dk_lawful.specs.MoreExamples.{compacting, side_name}

-- the version of a checkpoint, and the name of a sidecar
unfoldable pub mark_text_0 : List ℕ
mark_text_0 = codes "{\"checkpointMetadata\":{\"version\":0}}\n"

unfoldable pub mark_text_1 : List ℕ
mark_text_1 = codes "{\"checkpointMetadata\":{\"version\":1}}\n"

unfoldable pub side_text : List ℕ
side_text = codes "{\"sidecar\":{\"modificationTime\":2,\"path\":\"x/%73.parquet\",\"sizeInBytes\":1}}\n"

abbrev pub side_action : Action
side_action = action.Sidecar (record { path = codes "x/%73.parquet"; size = pos 1; stamp = pos 2 })

-- checkpoints of both versions of the example
abbrev pub older_text : List ℕ
older_text = mark_text_0 ++ first_text

abbrev pub older_actions : List Action
older_actions = mark 0 ∷ first_actions

abbrev pub whole_text : List ℕ
whole_text = mark_text_1 ++ (first_text ++ second_text)

abbrev pub whole_actions : List Action
whole_actions = mark 1 ∷ (first_actions ++ second_actions)

-- one without the first commit's actions, and one that names a sidecar
abbrev pub lacking_text : List ℕ
lacking_text = mark_text_1 ++ second_text

abbrev pub lacking_actions : List Action
lacking_actions = mark 1 ∷ second_actions

abbrev pub naming_text : List ℕ
naming_text = mark_text_1 ++ (first_text ++ (second_text ++ side_text))

abbrev pub naming_actions : List Action
naming_actions = mark 1 ∷ (first_actions ++ (second_actions ++ side_action ∷ []))

-- ones of the right actions that say another version, no version, and their version twice, and one that names no sidecar's name
abbrev pub older_marked_text : List ℕ
older_marked_text = mark_text_1 ++ first_text

abbrev pub older_marked_actions : List Action
older_marked_actions = mark 1 ∷ first_actions

abbrev pub unmarked_text : List ℕ
unmarked_text = first_text ++ second_text

abbrev pub unmarked_actions : List Action
unmarked_actions = first_actions ++ second_actions

abbrev pub marked_twice_text : List ℕ
marked_twice_text = mark_text_1 ++ whole_text

abbrev pub marked_twice_actions : List Action
marked_twice_actions = mark 1 ∷ whole_actions

abbrev pub misnaming_text : List ℕ
misnaming_text = whole_text ++ sidecar_text

abbrev pub misnaming_actions : List Action
misnaming_actions = whole_actions ++ sidecar_actions

-- both checkpoints come after the compacted file of the commits
abbrev pub checkpointing : List Told → List Told
checkpointing events = Made (place_path (V2 1 7 true)) whole_text (pos 4) ∷ Made (place_path (V2 0 6 true)) older_text (pos 3) ∷ compacting events

-- and what the newer one makes needless goes
abbrev pub clearing : List Told → List Told
clearing events = Deleted (place_path (V2 0 6 true)) ∷ Deleted (place_path (Compacted 0 1)) ∷ Deleted (commit_path 0) ∷ checkpointing events

-- a checkpoint that names a sidecar which stands
abbrev pub naming : List Told
naming = Made (place_path (V2 1 7 true)) naming_text (pos 4) ∷ Made (place_path (Sidecar side_name)) (codes "s") (pos 3) ∷ example

-- after this the floor is 1: version 0 needs a commit that went, and version 1 has its checkpoint
abbrev pub ClearedFloor : Type 0
ClearedFloor = (FromFloor (clearing example) 0 → ⊥) × FromFloor (clearing example) 1
