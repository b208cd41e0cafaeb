-- The object of a file that is added (Delta Lake's PROTOCOL.md, "Add File and Remove File").
use Rattle.std.specs.Prelude.{List, [], ◌∷◌, true, Option, Some, option_map, unwrap_or, is_some, codes}
use Rattle.serde_json.specs.Data.{Data}
use Rattle.dk_model.specs.declared.action.AddFile.{AddFile}
use Rattle.dk_model.specs.Fields.{◌>>=◌, field, needed, optional, whole, text, flag, pairs}
use Rattle.dk_model.specs.Shown.{Field, text_data, whole_data, flag_data, pairs_data}

unfoldable pub add_of : Data → Option AddFile
add_of d = do
  path ← needed text (codes "path") d
  values ← optional pairs (codes "partitionValues") d
  size ← needed whole (codes "size") d
  time ← needed whole (codes "modificationTime") d
  change ← optional flag (codes "dataChange") d
  stats ← optional text (codes "stats") d
  tags ← optional pairs (codes "tags") d
  row ← optional whole (codes "baseRowId") d
  version_given ← optional whole (codes "defaultRowCommitVersion") d
  clustering ← optional text (codes "clusteringProvider") d
  Some (record { path = path; partition_values = unwrap_or values []; size = size; modification_time = time; data_change = unwrap_or change true; stats = stats; tags = tags; base_row_id = row; default_row_commit_version = version_given; clustering_provider = clustering; vector = is_some (field (codes "deletionVector") d) })

-- what is written of it: that a vector stands beside the file is not
unfoldable pub add_fields : AddFile → List Field
add_fields f =
    (codes "baseRowId", option_map whole_data f.base_row_id)
    ∷ (codes "clusteringProvider", option_map text_data f.clustering_provider)
    ∷ (codes "dataChange", Some (flag_data f.data_change))
    ∷ (codes "defaultRowCommitVersion", option_map whole_data f.default_row_commit_version)
    ∷ (codes "modificationTime", Some (whole_data f.modification_time))
    ∷ (codes "partitionValues", Some (pairs_data f.partition_values))
    ∷ (codes "path", Some (text_data f.path))
    ∷ (codes "size", Some (whole_data f.size))
    ∷ (codes "stats", option_map text_data f.stats)
    ∷ (codes "tags", option_map pairs_data f.tags)
    ∷ []
