-- The features whose tables are read and written, by their names (Delta Lake's PROTOCOL.md, "Valid Feature Names in Table Features").
-- Those whose names stand in neither list below aren't known.
use Rattle.std.specs.Prelude.{ℕ, List, [], ◌∷◌, codes}

abbrev pub append_only : List ℕ
append_only = codes "appendOnly"

abbrev pub invariants : List ℕ
invariants = codes "invariants"

abbrev pub check_constraints : List ℕ
check_constraints = codes "checkConstraints"

abbrev pub change_data_feed : List ℕ
change_data_feed = codes "changeDataFeed"

abbrev pub generated_columns : List ℕ
generated_columns = codes "generatedColumns"

abbrev pub column_mapping : List ℕ
column_mapping = codes "columnMapping"

abbrev pub identity_columns : List ℕ
identity_columns = codes "identityColumns"

abbrev pub domain_metadata : List ℕ
domain_metadata = codes "domainMetadata"

abbrev pub timestamp_ntz : List ℕ
timestamp_ntz = codes "timestampNtz"

abbrev pub v2_checkpoint : List ℕ
v2_checkpoint = codes "v2Checkpoint"

abbrev pub vacuum_protocol_check : List ℕ
vacuum_protocol_check = codes "vacuumProtocolCheck"

abbrev pub type_widening : List ℕ
type_widening = codes "typeWidening"

abbrev pub catalog_managed : List ℕ
catalog_managed = codes "catalogManaged"

abbrev pub deletion_vectors : List ℕ
deletion_vectors = codes "deletionVectors"

-- a table with such a feature is read and written
abbrev pub both : List (List ℕ)
both = append_only ∷ domain_metadata ∷ timestamp_ntz ∷ v2_checkpoint ∷ vacuum_protocol_check ∷ []

-- a table with such a feature is read; it isn't written, but for one with invariants whose schema has none
abbrev pub reading_alone : List (List ℕ)
reading_alone = invariants ∷ check_constraints ∷ change_data_feed ∷ generated_columns ∷ column_mapping ∷ identity_columns ∷ codes "inCommitTimestamp"
    ∷ type_widening ∷ codes "rowTracking" ∷ codes "icebergCompatV1" ∷ codes "icebergCompatV2" ∷ codes "clustering" ∷ []

-- the features that readers must know too; all others are asked of writers alone
abbrev pub reader_and_writer : List (List ℕ)
reader_and_writer = column_mapping ∷ deletion_vectors ∷ timestamp_ntz ∷ v2_checkpoint ∷ type_widening ∷ vacuum_protocol_check ∷ catalog_managed ∷ []
