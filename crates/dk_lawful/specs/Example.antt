-- A small log, and texts of commits that may come next or may not.
use Rattle.std.specs.Prelude.{◌≡◌, ℕ, ℤ, pos, negsuc, Bool, true, false, List, [], ◌∷◌, ◌++◌, Option, Some, None, codes}
use Rattle.dk_model.specs.declared.action.Action.{Action}
use Rattle.dk_model.specs.declared.action.Action.TheVariants as action
use Rattle.dk_store.specs.Told.{Told, Made, Ratified}
use Rattle.dk_paths.specs.Names.{commit_path}
use Rattle.dk_paths.specs.Places.{log_front, staged_front}
use Rattle.dk_paths.specs.Staged.{staged_name}
use Rattle.dk_lawful.specs.History.{history, by_file}
use Rattle.dk_lawful.specs.Lawful.{Lawful}
use Rattle.dk_lawful.specs.Permits.{Permits}

-- a file that is added, and a table's metadata
abbrev pub an_add : List ℕ → ℤ → Bool → Action
an_add path size vector = action.Add (record {
  path = path;
  partition_values = [];
  size = size;
  modification_time = pos 5;
  data_change = true;
  stats = None;
  tags = None;
  base_row_id = None;
  default_row_commit_version = None;
  clustering_provider = None;
  vector = vector;
})

abbrev pub a_table : List ℕ → List (List ℕ × Option (List ℕ)) → Action
a_table schema configuration = action.Metadata (record {
  id = codes "t";
  name = None;
  description = None;
  provider = codes "parquet";
  options = [];
  schema_string = schema;
  partition_columns = [];
  created_time = None;
  configuration = configuration;
})

-- a table begins
unfoldable pub first_text : List ℕ
first_text = codes "{\"protocol\":{\"minReaderVersion\":1,\"minWriterVersion\":1}}\n{\"metaData\":{\"id\":\"t\",\"schemaString\":\"s\"}}\n"

abbrev pub first_actions : List Action
first_actions =
    action.Protocol (record { min_reader = 1; min_writer = 1; reader_features = None; writer_features = None })
    ∷ a_table (codes "s") []
    ∷ []

-- it gets a file
unfoldable pub second_text : List ℕ
second_text = codes "{\"add\":{\"modificationTime\":5,\"path\":\"a\",\"size\":1}}\n"

abbrev pub second_actions : List Action
second_actions = an_add (codes "a") (pos 1) false ∷ []

-- it would get a list of features, another writer version, and a file of a size below 0
unfoldable pub listing_text : List ℕ
listing_text = codes "{\"protocol\":{\"minReaderVersion\":1,\"minWriterVersion\":1,\"writerFeatures\":[]}}\n"

abbrev pub listing_actions : List Action
listing_actions = action.Protocol (record { min_reader = 1; min_writer = 1; reader_features = None; writer_features = Some [] }) ∷ []

unfoldable pub upgrading_text : List ℕ
upgrading_text = codes "{\"protocol\":{\"minReaderVersion\":1,\"minWriterVersion\":2}}\n"

abbrev pub upgrading_actions : List Action
upgrading_actions = action.Protocol (record { min_reader = 1; min_writer = 2; reader_features = None; writer_features = None }) ∷ []

unfoldable pub shrinking_text : List ℕ
shrinking_text = codes "{\"add\":{\"modificationTime\":5,\"path\":\"b\",\"size\":-1}}\n"

abbrev pub shrinking_actions : List Action
shrinking_actions = an_add (codes "b") (negsuc 0) false ∷ []

-- a table begins that a catalogue manages
unfoldable pub managed_text : List ℕ
managed_text = codes "{\"protocol\":{\"minReaderVersion\":1,\"minWriterVersion\":7,\"writerFeatures\":[\"catalogManaged\"]}}\n"

abbrev pub managed_actions : List Action
managed_actions =
    action.Protocol (record { min_reader = 1; min_writer = 7; reader_features = None; writer_features = Some (codes "catalogManaged" ∷ []) })
    ∷ []

abbrev pub first_event : Told
first_event = Made (commit_path 0) first_text (pos 0)

abbrev pub example : List Told
example = Made (commit_path 1) second_text (pos 1) ∷ first_event ∷ []

-- a table that a catalogue manages, with a staged commit of version 1, which is then ratified
abbrev pub staged_name_1 : List ℕ
staged_name_1 = staged_name 1 7

abbrev pub staging : List Told
staging = Made (log_front ++ (staged_front ++ staged_name_1)) second_text (pos 1) ∷ Made (commit_path 0) managed_text (pos 0) ∷ []

abbrev pub ratifying : List Told
ratifying = Ratified 1 staged_name_1 ∷ staging

-- the log of both is lawful, and they are its history
abbrev pub ExampleIsLawful : Type 0
ExampleIsLawful = (horizon : ℤ) → Lawful example horizon

abbrev pub ExampleHistory : Type 0
ExampleHistory = history example ≡ by_file first_actions ∷ by_file second_actions ∷ []

-- an event that may not come after these, whatever the horizon
abbrev pub IsForbidden : List Told → Told → Type 0
IsForbidden events event = (horizon : ℤ) → Permits events event horizon → ⊥
