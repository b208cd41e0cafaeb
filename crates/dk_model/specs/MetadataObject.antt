-- The object of metadata (Delta Lake's PROTOCOL.md, "Change Metadata" and "Format Specification").
use Rattle.std.specs.Prelude.{ℕ, List, [], ◌∷◌, Option, Some, None, option_map, unwrap_or, codes}
use Rattle.serde_json.specs.Data.{Data}
use Rattle.dk_model.specs.declared.action.Metadata.{Metadata}
use Rattle.dk_model.specs.Fields.{◌>>=◌, needed, optional, whole, text, names, pairs, group}
use Rattle.dk_model.specs.Shown.{Field, text_data, whole_data, names_data, pairs_data, object_with}

-- the provider and the options of a format, where there is one
unfoldable pub format_of : Option Data → Option (List ℕ × List (List ℕ × Option (List ℕ)))
format_of None = Some (codes "parquet", [])
format_of (Some d) = do
  provider ← optional text (codes "provider") d
  options ← optional pairs (codes "options") d
  Some (unwrap_or provider (codes "parquet"), unwrap_or options [])

unfoldable pub metadata_of : Data → Option Metadata
metadata_of d = do
  id ← needed text (codes "id") d
  name ← optional text (codes "name") d
  description ← optional text (codes "description") d
  given ← optional group (codes "format") d
  format ← format_of given
  schema ← needed text (codes "schemaString") d
  columns ← optional names (codes "partitionColumns") d
  time ← optional whole (codes "createdTime") d
  configuration ← optional pairs (codes "configuration") d
  Some (record { id = id; name = name; description = description; provider = format.0; options = format.1; schema_string = schema; partition_columns = unwrap_or columns []; created_time = time; configuration = unwrap_or configuration [] })

unfoldable pub format_fields : Metadata → List Field
format_fields m =
    (codes "options", Some (pairs_data m.options))
    ∷ (codes "provider", Some (text_data m.provider))
    ∷ []

unfoldable pub metadata_fields : Metadata → List Field
metadata_fields m =
    (codes "configuration", Some (pairs_data m.configuration))
    ∷ (codes "createdTime", option_map whole_data m.created_time)
    ∷ (codes "description", option_map text_data m.description)
    ∷ (codes "format", Some (object_with (format_fields m)))
    ∷ (codes "id", Some (text_data m.id))
    ∷ (codes "name", option_map text_data m.name)
    ∷ (codes "partitionColumns", Some (names_data m.partition_columns))
    ∷ (codes "schemaString", Some (text_data m.schema_string))
    ∷ []
