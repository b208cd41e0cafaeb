-- The schemas of checkpoints keep the rules of a schema.
use Rattle.std.proofs.Common.{◌≡◌, List, [], ◌∷◌, ◌++◌, refl, arith, ap, codes}
use Rattle.dk_pqmodel.specs.Shape.{chars, leaf, group, Field, Fields, one_field}
use Rattle.dk_pqmodel.specs.NodeView.{fields_of_list}
use Rattle.dk_pqmodel.specs.Schema.{IsSchema}
use Rattle.dk_lawful.specs.CheckpointSchema.{nullable_field, fields, action_groups, txn_group, add_group, vector_group, remove_group, format_group, metadata_group, protocol_group, domain_group, checkpoint_group, sidecar_group, written_fields, read_fields}

-- fields gathered in a list, whoever does it
pub same_fields : (fs : List Field) → fields_of_list fs ≡ fields fs
same_fields [] = refl
same_fields (f ∷ fs) = ap (one_field f) (same_fields fs)

pub written_is_schema : IsSchema written_fields
unfolding txn_group add_group remove_group format_group metadata_group protocol_group domain_group checkpoint_group sidecar_group
written_is_schema = record { some = refl; distinct = refl; sound = refl; levels = omega arith }

pub read_is_schema : IsSchema read_fields
unfolding txn_group add_group vector_group remove_group format_group metadata_group protocol_group domain_group checkpoint_group sidecar_group
read_is_schema = record { some = refl; distinct = refl; sound = refl; levels = omega arith }

pub written_by : (ns : Fields) (adds : List Field) → ns ≡ action_groups adds → adds ≡ add_group → IsSchema ns
written_by ns adds all own = rw (all, own) written_is_schema

pub read_by : (ns : Fields) (adds : List Field) → ns ≡ action_groups adds → adds ≡ add_group ++ vector_group → IsSchema ns
read_by ns adds all own = rw (all, own) read_is_schema

-- the one field of a deletion vector that is read, behind those of an add
pub with_vector : (before after inner : List Field) → after ≡ before ++ nullable_field (codes "deletionVector") (group (fields_of_list inner)) ∷ [] → before ≡ add_group → inner ≡ nullable_field (codes "storageType") (leaf chars) ∷ [] → after ≡ add_group ++ vector_group
unfolding vector_group
with_vector before after inner all adds vector = rw (all, adds, vector)
