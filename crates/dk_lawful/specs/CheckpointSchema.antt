-- The schema of checkpoints in Parquet (Delta Lake's PROTOCOL.md, "Checkpoint Schema"): a group for each kind of action, of which a row
-- fills one.
use Rattle.std.specs.Prelude.{ℕ, List, [], ◌∷◌, ◌++◌, true, codes}
use Rattle.dk_pqmodel.specs.Shape.{flag, int32, int64, chars, Shape, leaf, group, list, map_of, Field, field, Fields, no_fields, one_field}
use Rattle.dk_model.specs.declared.action_key.ActionKey.{ActionKey}
use Rattle.dk_model.specs.declared.action_key.ActionKey.TheVariants as key
use Rattle.dk_model.specs.ActionKeys.{name_of}

-- each field may be null, but for the key of a map
abbrev pub nullable_field : List ℕ → Shape → Field
nullable_field name s = field name true s

abbrev pub fields : List Field → Fields
fields [] = no_fields
fields (f ∷ fs) = one_field f (fields fs)

abbrev pub list_of_texts : Shape
list_of_texts = list (nullable_field [] (leaf chars))

abbrev pub text_map : Shape
text_map = map_of (nullable_field [] (leaf chars))

-- ---- the groups

unfoldable pub txn_group : List Field
txn_group = nullable_field (codes "appId") (leaf chars) ∷ nullable_field (codes "version") (leaf int64) ∷ nullable_field (codes "lastUpdated") (leaf int64) ∷ []

unfoldable pub add_group : List Field
add_group =
    nullable_field (codes "path") (leaf chars)
    ∷ nullable_field (codes "partitionValues") text_map
    ∷ nullable_field (codes "size") (leaf int64)
    ∷ nullable_field (codes "modificationTime") (leaf int64)
    ∷ nullable_field (codes "dataChange") (leaf flag)
    ∷ nullable_field (codes "stats") (leaf chars)
    ∷ nullable_field (codes "tags") text_map
    ∷ nullable_field (codes "baseRowId") (leaf int64)
    ∷ nullable_field (codes "defaultRowCommitVersion") (leaf int64)
    ∷ nullable_field (codes "clusteringProvider") (leaf chars)
    ∷ []

-- read beside them
unfoldable pub vector_group : List Field
vector_group = nullable_field (codes "deletionVector") (group (fields (nullable_field (codes "storageType") (leaf chars) ∷ []))) ∷ []

unfoldable pub remove_group : List Field
remove_group = nullable_field (codes "path") (leaf chars) ∷ nullable_field (codes "deletionTimestamp") (leaf int64) ∷ nullable_field (codes "dataChange") (leaf flag) ∷ []

unfoldable pub format_group : List Field
format_group = nullable_field (codes "provider") (leaf chars) ∷ nullable_field (codes "options") text_map ∷ []

unfoldable pub metadata_group : List Field
metadata_group =
    nullable_field (codes "id") (leaf chars)
    ∷ nullable_field (codes "name") (leaf chars)
    ∷ nullable_field (codes "description") (leaf chars)
    ∷ nullable_field (codes "format") (group (fields format_group))
    ∷ nullable_field (codes "schemaString") (leaf chars)
    ∷ nullable_field (codes "partitionColumns") list_of_texts
    ∷ nullable_field (codes "configuration") text_map
    ∷ nullable_field (codes "createdTime") (leaf int64)
    ∷ []

unfoldable pub protocol_group : List Field
protocol_group =
    nullable_field (codes "minReaderVersion") (leaf int32)
    ∷ nullable_field (codes "minWriterVersion") (leaf int32)
    ∷ nullable_field (codes "readerFeatures") list_of_texts
    ∷ nullable_field (codes "writerFeatures") list_of_texts
    ∷ []

unfoldable pub domain_group : List Field
domain_group = nullable_field (codes "domain") (leaf chars) ∷ nullable_field (codes "configuration") (leaf chars) ∷ nullable_field (codes "removed") (leaf flag) ∷ []

unfoldable pub checkpoint_group : List Field
checkpoint_group = nullable_field (codes "version") (leaf int64) ∷ []

unfoldable pub sidecar_group : List Field
sidecar_group = nullable_field (codes "path") (leaf chars) ∷ nullable_field (codes "sizeInBytes") (leaf int64) ∷ nullable_field (codes "modificationTime") (leaf int64) ∷ []

-- ---- the whole schema

-- the group of a kind of action has the name of its key
abbrev pub keyed_group : ActionKey → List Field → Field
keyed_group k fs = nullable_field (name_of k) (group (fields fs))

-- the groups, by what an add has
abbrev pub action_groups : List Field → Fields
action_groups adds = fields (
    keyed_group key.Txn txn_group
    ∷ keyed_group key.Add adds
    ∷ keyed_group key.Remove remove_group
    ∷ keyed_group key.Metadata metadata_group
    ∷ keyed_group key.Protocol protocol_group
    ∷ keyed_group key.Domain domain_group
    ∷ keyed_group key.CheckpointMeta checkpoint_group
    ∷ keyed_group key.Sidecar sidecar_group
    ∷ []
    )

-- what is written, and what is read
abbrev pub written_fields : Fields
written_fields = action_groups add_group

abbrev pub read_fields : Fields
read_fields = action_groups (add_group ++ vector_group)
