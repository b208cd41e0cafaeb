-- A table that a catalogue manages from its first version on, and whose commits say their times.
use Rattle.std.specs.Prelude.{◌≡◌, ℕ, ℤ, pos, true, false, List, [], ◌∷◌, ◌++◌, Some, None, codes}
use Rattle.dk_model.specs.declared.action.Action.{Action}
use Rattle.dk_model.specs.declared.action.Action.TheVariants as action
use Rattle.dk_store.specs.Told.{Told, Made, Deleted, Ratified, Forgotten}
use Rattle.dk_paths.specs.Names.{commit_path}
use Rattle.dk_paths.specs.Places.{Staged, V2, place_path}
use Rattle.dk_paths.specs.Staged.{staged_name}
use Rattle.dk_lawful.specs.History.{history, by_file, by_catalogue}
use Rattle.dk_lawful.specs.Lawful.{Lawful}
use Rattle.dk_lawful.specs.Contents.{mark}
use Rattle.dk_lawful.specs.CheckpointExample.{mark_text_1}
use Rattle.dk_lawful.specs.Example.{an_add, a_table}

-- ---- its commits

unfoldable pub founding_text : List ℕ
founding_text =
    codes "{\"commitInfo\":{\"inCommitTimestamp\":5}}\n{\"protocol\":{\"minReaderVersion\":3,\"minWriterVersion\":7,\"readerFeatures\":[\"catalogManaged\"],\"writerFeatures\":[\"catalogManaged\",\"inCommitTimestamp\"]}}\n{\"metaData\":{\"configuration\":{\"delta.enableInCommitTimestamps\":\"true\"},\"id\":\"t\",\"schemaString\":\"s\"}}\n"

abbrev pub said_at : ℕ → Action
said_at time = action.Info (record { in_commit_timestamp = Some (pos time); txn_id = None })

abbrev pub founding_actions : List Action
founding_actions =
    said_at 5
    ∷ action.Protocol (record { min_reader = 3; min_writer = 7; reader_features = Some (codes "catalogManaged" ∷ []); writer_features = Some (codes "catalogManaged" ∷ codes "inCommitTimestamp" ∷ []) })
    ∷ a_table (codes "s") ((codes "delta.enableInCommitTimestamps", Some (codes "true")) ∷ [])
    ∷ []

-- a file, at a later time, and another, at the same one as before
unfoldable pub adding_text : List ℕ
adding_text = codes "{\"commitInfo\":{\"inCommitTimestamp\":6}}\n{\"add\":{\"modificationTime\":5,\"path\":\"a\",\"size\":1}}\n"

abbrev pub plain_file : List ℕ → Action
plain_file path = an_add path (pos 1) false

abbrev pub adding_actions : List Action
adding_actions = said_at 6 ∷ plain_file (codes "a") ∷ []

unfoldable pub late_text : List ℕ
late_text = codes "{\"commitInfo\":{\"inCommitTimestamp\":5}}\n{\"add\":{\"modificationTime\":5,\"path\":\"b\",\"size\":1}}\n"

abbrev pub late_actions : List Action
late_actions = said_at 5 ∷ plain_file (codes "b") ∷ []

-- ---- its log

abbrev pub founded : List Told
founded = Made (commit_path 0) founding_text (pos 0) ∷ []

-- two commits of version 1 are staged, of which one is ratified, and that is published
abbrev pub staged_once : List Told
staged_once = Made (place_path (Staged 1 7)) adding_text (pos 1) ∷ founded

abbrev pub staged_twice : List Told
staged_twice = Made (place_path (Staged 1 8)) late_text (pos 2) ∷ staged_once

-- one of the version after that too
abbrev pub staged_ahead : List Told
staged_ahead = Made (place_path (Staged 2 5)) adding_text (pos 3) ∷ staged_twice

-- one whose text means nothing
abbrev pub staged_unreadable : List Told
staged_unreadable = Made (place_path (Staged 1 6)) (codes "{") (pos 1) ∷ founded

abbrev pub catalogued : List Told
catalogued = Ratified 1 (staged_name 1 7) ∷ staged_twice

abbrev pub published : List Told
published = Made (commit_path 1) adding_text (pos 3) ∷ catalogued

-- then the ratification is forgotten, and both staged commits go
abbrev pub forgotten : List Told
forgotten = Forgotten 1 ∷ published

abbrev pub dropped : List Told
dropped = Deleted (place_path (Staged 1 8)) ∷ Deleted (place_path (Staged 1 7)) ∷ forgotten

-- a checkpoint of version 1
abbrev pub checkpoint_text : List ℕ
checkpoint_text = mark_text_1 ++ (founding_text ++ adding_text)

abbrev pub checkpoint_actions : List Action
checkpoint_actions = mark 1 ∷ (founding_actions ++ adding_actions)

abbrev pub checkpointed : List Told
checkpointed = Made (place_path (V2 1 9 true)) checkpoint_text (pos 4) ∷ dropped

-- ---- what holds of it

abbrev pub ManagedIsLawful : Type 0
ManagedIsLawful = (horizon : ℤ) → Lawful checkpointed horizon

abbrev pub ManagedHistory : Type 0
ManagedHistory = history checkpointed ≡ by_file founding_actions ∷ by_catalogue adding_actions ∷ []
