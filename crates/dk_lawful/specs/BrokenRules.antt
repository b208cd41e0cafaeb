-- Texts of commits that break a rule, but for those of the example.
use Rattle.std.specs.Prelude.{ℕ, pos, true, false, List, [], ◌∷◌, Some, None, codes}
use Rattle.dk_model.specs.declared.action.Action.{Action}
use Rattle.dk_model.specs.declared.action.Action.TheVariants as action
use Rattle.dk_store.specs.Told.{Told, Made}
use Rattle.dk_paths.specs.Names.{commit_path}
use Rattle.dk_lawful.specs.Example.{an_add, a_table}

-- what its writer says of it
unfoldable pub informing_text : List ℕ
informing_text = codes "{\"commitInfo\":{}}\n"

abbrev pub informing_actions : List Action
informing_actions = action.Info (record { in_commit_timestamp = None; txn_id = None }) ∷ []

-- a sidecar, which stands in checkpoints alone
unfoldable pub sidecar_text : List ℕ
sidecar_text = codes "{\"sidecar\":{\"modificationTime\":5,\"path\":\"s\",\"sizeInBytes\":1}}\n"

abbrev pub sidecar_actions : List Action
sidecar_actions = action.Sidecar (record { path = codes "s"; size = pos 1; stamp = pos 5 }) ∷ []

-- the version of an application
unfoldable pub applying_text : List ℕ
applying_text = codes "{\"txn\":{\"appId\":\"e\",\"version\":1}}\n"

abbrev pub applying_actions : List Action
applying_actions = action.Txn (record { app_id = codes "e"; version = pos 1; last_updated = None }) ∷ []

-- the settings of a domain
unfoldable pub settling_text : List ℕ
settling_text = codes "{\"domainMetadata\":{\"configuration\":\"\",\"domain\":\"d\",\"removed\":false}}\n"

abbrev pub settling_actions : List Action
settling_actions = action.Domain (record { domain = codes "d"; configuration = []; removed = false }) ∷ []

-- a table begins that rows are only added to
unfoldable pub appending_text : List ℕ
appending_text =
    codes "{\"protocol\":{\"minReaderVersion\":1,\"minWriterVersion\":2}}\n{\"metaData\":{\"configuration\":{\"delta.appendOnly\":\"true\"},\"id\":\"t\",\"schemaString\":\"{}\"}}\n"

abbrev pub appending_actions : List Action
appending_actions =
    action.Protocol (record { min_reader = 1; min_writer = 2; reader_features = None; writer_features = None })
    ∷ a_table (codes "{}") ((codes "delta.appendOnly", Some (codes "true")) ∷ [])
    ∷ []

-- a file goes with its rows
unfoldable pub removing_text : List ℕ
removing_text = codes "{\"remove\":{\"deletionTimestamp\":5,\"path\":\"a\"}}\n"

abbrev pub removing_actions : List Action
removing_actions = action.Remove (record { path = codes "a"; deletion_timestamp = pos 5; data_change = true }) ∷ []

abbrev pub appending_log : List Told
appending_log = Made (commit_path 0) appending_text (pos 0) ∷ []

-- a file with a deletion vector
unfoldable pub vector_text : List ℕ
vector_text = codes "{\"add\":{\"deletionVector\":{\"storageType\":\"u\"},\"modificationTime\":5,\"path\":\"b\",\"size\":1}}\n"

abbrev pub vector_actions : List Action
vector_actions = an_add (codes "b") (pos 1) true ∷ []

-- a table begins that a catalogue manages, and whose commits don't say their times
unfoldable pub untimed_text : List ℕ
untimed_text =
    codes "{\"protocol\":{\"minReaderVersion\":3,\"minWriterVersion\":7,\"readerFeatures\":[\"catalogManaged\"],\"writerFeatures\":[\"catalogManaged\"]}}\n{\"metaData\":{\"id\":\"t\",\"schemaString\":\"s\"}}\n"

abbrev pub untimed_actions : List Action
untimed_actions =
    action.Protocol (record { min_reader = 3; min_writer = 7; reader_features = Some (codes "catalogManaged" ∷ []); writer_features = Some (codes "catalogManaged" ∷ []) })
    ∷ a_table (codes "s") []
    ∷ []
