-- An object that shows the fields of an action is read as that action, whatever made it.
use Rattle.std.proofs.Common.{◌≡◌, ℕ, ℤ, true, false, List, Option, Some, None, option_map, option_and_then, codes, refl, sym, ap, ◌∙◌}
use Rattle.std.specs.Prelude.{IfSome}
use Rattle.serde_json.specs.Data.{Data}
use Rattle.dk_model.specs.Pairs.{AreKeysRising}
use Rattle.dk_model.specs.declared.action.Protocol.{Protocol}
use Rattle.dk_model.specs.declared.action.Metadata.{Metadata}
use Rattle.dk_model.specs.declared.action.AddFile.{AddFile}
use Rattle.dk_model.specs.declared.action.RemoveFile.{RemoveFile}
use Rattle.dk_model.specs.declared.action.Txn.{Txn}
use Rattle.dk_model.specs.declared.action.Domain.{Domain}
use Rattle.dk_model.specs.declared.action.CheckpointMeta.{CheckpointMeta}
use Rattle.dk_model.specs.declared.action.SidecarRef.{SidecarRef}
use Rattle.dk_model.specs.declared.action.Action.{Action}
use Rattle.dk_model.specs.declared.action.Action.TheVariants as action
use Rattle.dk_model.specs.ActionKeys.{all_keys}
use Rattle.dk_model.specs.Fields.{present, field, formed, optional, needed, lenient, whole, version, count, text, flag, names, pairs, group}
use Rattle.dk_model.specs.Shown.{Field, text_data, whole_data, names_data, pairs_data, object_with, Shows}
use Rattle.dk_model.specs.ProtocolObject.{protocol_of, protocol_fields}
use Rattle.dk_model.specs.MetadataObject.{format_of, metadata_of, format_fields, metadata_fields}
use Rattle.dk_model.specs.AddObject.{add_of, add_fields}
use Rattle.dk_model.specs.RemoveObject.{remove_of, remove_fields}
use Rattle.dk_model.specs.TxnObject.{txn_of, txn_fields}
use Rattle.dk_model.specs.DomainObject.{domain_of, domain_fields}
use Rattle.dk_model.specs.CheckpointObjects.{checkpoint_meta_of, checkpoint_meta_fields, sidecar_of, sidecar_fields}
use Rattle.dk_model.specs.InfoObject.{info_of, own_info_fields, own_info_object}
use Rattle.dk_model.specs.ActionObject.{action_of, object_of}
use Rattle.dk_model.specs.Ranges.{IsWhole, IsProtocolInRange, IsMetadataInRange, IsAddInRange, IsRemoveInRange, IsTxnInRange, IsCheckpointMetaInRange, IsSidecarInRange, IsInRange}
use Rattle.dk_model.specs.ReadBack.{HasRisingKeys, has_vector, is_written, own_info}
use Rattle.dk_model.proofs.Found.{found}
use Rattle.dk_model.proofs.ShownFields.{shown_at, optional_shown, shows_object}
use Rattle.dk_model.proofs.FormsBack.{whole_back, version_back, count_back, names_back, pairs_back, at_some}

-- ---- the readings

pub protocol_shown : (p : Protocol) (d : Data) → IsProtocolInRange p → Shows (protocol_fields p) d → protocol_of d ≡ Some p
unfolding protocol_of protocol_fields
protocol_shown p d r shows =
    let fs = protocol_fields p in
    let reader : needed version (codes "minReaderVersion") d ≡ Some p.min_reader = ap (option_and_then version) (shown_at (codes "minReaderVersion") fs d _ shows refl) ∙ version_back _ r.reader in
    let writer : needed version (codes "minWriterVersion") d ≡ Some p.min_writer = ap (option_and_then version) (shown_at (codes "minWriterVersion") fs d _ shows refl) ∙ version_back _ r.writer in
    let readers : optional names (codes "readerFeatures") d ≡ Some p.reader_features =
    optional_shown names names_data p.reader_features (codes "readerFeatures") d (shown_at (codes "readerFeatures") fs d _ shows refl) (λ x _. names_back x) in
    let writers : optional names (codes "writerFeatures") d ≡ Some p.writer_features =
    optional_shown names names_data p.writer_features (codes "writerFeatures") d (shown_at (codes "writerFeatures") fs d _ shows refl) (λ x _. names_back x) in
    rw (reader, writer, readers, writers)

pub format_shown : (m : Metadata) (d : Data) → AreKeysRising m.options → Shows (format_fields m) d → format_of (Some d) ≡ Some (m.provider, m.options)
unfolding format_of format_fields
format_shown m d keys shows =
    let fs = format_fields m in
    let provider : optional text (codes "provider") d ≡ Some (Some m.provider) = ap (formed text) (shown_at (codes "provider") fs d _ shows refl) in
    let options : optional pairs (codes "options") d ≡ Some (Some m.options) = ap (formed pairs) (shown_at (codes "options") fs d _ shows refl) ∙ ap (option_map Some) (pairs_back _ keys) in
    rw (provider, options)

is_group : (fs : List Field) → group (object_with fs) ≡ Some (object_with fs)
unfolding object_with
is_group fs = refl

is_value : (fs : List Field) → present (Some (object_with fs)) ≡ Some (object_with fs)
unfolding object_with
is_value fs = refl

format_object_shows : (m : Metadata) → Shows (format_fields m) (object_with (format_fields m))
unfolding format_fields
format_object_shows m = shows_object (format_fields m) refl (refl, (refl, tt))

pub metadata_shown : (m : Metadata) (d : Data) → IsMetadataInRange m → AreKeysRising m.options → AreKeysRising m.configuration → Shows (metadata_fields m) d → metadata_of d ≡ Some m
unfolding metadata_of metadata_fields
metadata_shown m d r options_rise configuration_rise shows =
    let fs = metadata_fields m in
    let id : needed text (codes "id") d ≡ Some m.id = ap (option_and_then text) (shown_at (codes "id") fs d _ shows refl) in
    let name : optional text (codes "name") d ≡ Some m.name = optional_shown text text_data m.name (codes "name") d (shown_at (codes "name") fs d _ shows refl) (λ x _. refl) in
    let description : optional text (codes "description") d ≡ Some m.description =
    optional_shown text text_data m.description (codes "description") d (shown_at (codes "description") fs d _ shows refl) (λ x _. refl) in
    let given : optional group (codes "format") d ≡ Some (Some (object_with (format_fields m))) =
    ap (formed group) (shown_at (codes "format") fs d _ shows refl) ∙ ap (option_map Some) (is_group (format_fields m)) in
    let format : format_of (Some (object_with (format_fields m))) ≡ Some (m.provider, m.options) = format_shown m _ options_rise (format_object_shows m) in
    let schema : needed text (codes "schemaString") d ≡ Some m.schema_string = ap (option_and_then text) (shown_at (codes "schemaString") fs d _ shows refl) in
    let columns : optional names (codes "partitionColumns") d ≡ Some (Some m.partition_columns) =
    ap (formed names) (shown_at (codes "partitionColumns") fs d _ shows refl) ∙ ap (option_map Some) (names_back m.partition_columns) in
    let time : optional whole (codes "createdTime") d ≡ Some m.created_time =
    optional_shown whole whole_data m.created_time (codes "createdTime") d (shown_at (codes "createdTime") fs d _ shows refl) (λ x e. whole_back x (at_some IsWhole m.created_time r.time x e)) in
    let configuration : optional pairs (codes "configuration") d ≡ Some (Some m.configuration) =
    ap (formed pairs) (shown_at (codes "configuration") fs d _ shows refl) ∙ ap (option_map Some) (pairs_back _ configuration_rise) in
    rw (id, name, description, given, format, schema, columns, time, configuration)

pub add_shown : (f : AddFile) (d : Data) → IsAddInRange f → AreKeysRising f.partition_values → IfSome f.tags AreKeysRising → f.vector ≡ false → Shows (add_fields f) d → field (codes "deletionVector") d ≡ None → add_of d ≡ Some f
unfolding add_of add_fields
add_shown f d r values_rise tags_rise vector shows no_vector =
    let fs = add_fields f in
    let path : needed text (codes "path") d ≡ Some f.path = ap (option_and_then text) (shown_at (codes "path") fs d _ shows refl) in
    let values : optional pairs (codes "partitionValues") d ≡ Some (Some f.partition_values) =
    ap (formed pairs) (shown_at (codes "partitionValues") fs d _ shows refl) ∙ ap (option_map Some) (pairs_back _ values_rise) in
    let size : needed whole (codes "size") d ≡ Some f.size = ap (option_and_then whole) (shown_at (codes "size") fs d _ shows refl) ∙ whole_back _ r.size in
    let time : needed whole (codes "modificationTime") d ≡ Some f.modification_time = ap (option_and_then whole) (shown_at (codes "modificationTime") fs d _ shows refl) ∙ whole_back _ r.time in
    let change : optional flag (codes "dataChange") d ≡ Some (Some f.data_change) = ap (formed flag) (shown_at (codes "dataChange") fs d _ shows refl) in
    let stats : optional text (codes "stats") d ≡ Some f.stats = optional_shown text text_data f.stats (codes "stats") d (shown_at (codes "stats") fs d _ shows refl) (λ x _. refl) in
    let tags : optional pairs (codes "tags") d ≡ Some f.tags =
    optional_shown pairs pairs_data f.tags (codes "tags") d (shown_at (codes "tags") fs d _ shows refl) (λ x e. pairs_back x (at_some AreKeysRising f.tags tags_rise x e)) in
    let row : optional whole (codes "baseRowId") d ≡ Some f.base_row_id =
    optional_shown whole whole_data f.base_row_id (codes "baseRowId") d (shown_at (codes "baseRowId") fs d _ shows refl) (λ x e. whole_back x (at_some IsWhole f.base_row_id r.row x e)) in
    let given : optional whole (codes "defaultRowCommitVersion") d ≡ Some f.default_row_commit_version =
    optional_shown whole whole_data f.default_row_commit_version (codes "defaultRowCommitVersion") d (shown_at (codes "defaultRowCommitVersion") fs d _ shows refl)
    (λ x e. whole_back x (at_some IsWhole f.default_row_commit_version r.version x e)) in
    let clustering : optional text (codes "clusteringProvider") d ≡ Some f.clustering_provider =
    optional_shown text text_data f.clustering_provider (codes "clusteringProvider") d (shown_at (codes "clusteringProvider") fs d _ shows refl) (λ x _. refl) in
    rw (path, values, size, time, change, stats, tags, row, given, clustering, no_vector) (ap (λ v. Some (record f { vector = v })) (sym vector))

pub remove_shown : (r : RemoveFile) (d : Data) → IsRemoveInRange r → Shows (remove_fields r) d → remove_of d ≡ Some r
unfolding remove_of remove_fields
remove_shown r d h shows =
    let fs = remove_fields r in
    let path : needed text (codes "path") d ≡ Some r.path = ap (option_and_then text) (shown_at (codes "path") fs d _ shows refl) in
    let time : optional whole (codes "deletionTimestamp") d ≡ Some (Some r.deletion_timestamp) = ap (formed whole) (shown_at (codes "deletionTimestamp") fs d _ shows refl) ∙ ap (option_map Some) (whole_back _ h.time) in
    let change : optional flag (codes "dataChange") d ≡ Some (Some r.data_change) = ap (formed flag) (shown_at (codes "dataChange") fs d _ shows refl) in
    rw (path, time, change)

pub txn_shown : (t : Txn) (d : Data) → IsTxnInRange t → Shows (txn_fields t) d → txn_of d ≡ Some t
unfolding txn_of txn_fields
txn_shown t d h shows =
    let fs = txn_fields t in
    let application : needed text (codes "appId") d ≡ Some t.app_id = ap (option_and_then text) (shown_at (codes "appId") fs d _ shows refl) in
    let count : needed whole (codes "version") d ≡ Some t.version = ap (option_and_then whole) (shown_at (codes "version") fs d _ shows refl) ∙ whole_back _ h.version in
    let updated : optional whole (codes "lastUpdated") d ≡ Some t.last_updated =
    optional_shown whole whole_data t.last_updated (codes "lastUpdated") d (shown_at (codes "lastUpdated") fs d _ shows refl) (λ x e. whole_back x (at_some IsWhole t.last_updated h.updated x e)) in
    rw (application, count, updated)

pub domain_shown : (m : Domain) (d : Data) → Shows (domain_fields m) d → domain_of d ≡ Some m
unfolding domain_of domain_fields
domain_shown m d shows =
    let fs = domain_fields m in
    let domain : needed text (codes "domain") d ≡ Some m.domain = ap (option_and_then text) (shown_at (codes "domain") fs d _ shows refl) in
    let configuration : needed text (codes "configuration") d ≡ Some m.configuration = ap (option_and_then text) (shown_at (codes "configuration") fs d _ shows refl) in
    let removed : needed flag (codes "removed") d ≡ Some m.removed = ap (option_and_then flag) (shown_at (codes "removed") fs d _ shows refl) in
    rw (domain, configuration, removed)

pub checkpoint_meta_shown : (m : CheckpointMeta) (d : Data) → IsCheckpointMetaInRange m → Shows (checkpoint_meta_fields m) d → checkpoint_meta_of d ≡ Some m
unfolding checkpoint_meta_of checkpoint_meta_fields
checkpoint_meta_shown m d h shows =
    let fs = checkpoint_meta_fields m in
    let given : needed count (codes "version") d ≡ Some m.version = ap (option_and_then count) (shown_at (codes "version") fs d _ shows refl) ∙ count_back _ h.version in
    rw given

pub sidecar_shown : (r : SidecarRef) (d : Data) → IsSidecarInRange r → Shows (sidecar_fields r) d → sidecar_of d ≡ Some r
unfolding sidecar_of sidecar_fields
sidecar_shown r d h shows =
    let fs = sidecar_fields r in
    let path : needed text (codes "path") d ≡ Some r.path = ap (option_and_then text) (shown_at (codes "path") fs d _ shows refl) in
    let size : needed whole (codes "sizeInBytes") d ≡ Some r.size = ap (option_and_then whole) (shown_at (codes "sizeInBytes") fs d _ shows refl) ∙ whole_back _ h.size in
    let stamp : needed whole (codes "modificationTime") d ≡ Some r.stamp = ap (option_and_then whole) (shown_at (codes "modificationTime") fs d _ shows refl) ∙ whole_back _ h.stamp in
    rw (path, size, stamp)

-- ---- the objects that are written

value_if : {A : Type 0} (shown : A → Data) (o : Option A) → ((x : A) → present (Some (shown x)) ≡ Some (shown x)) → present (option_map shown o) ≡ option_map shown o
value_if shown None h = refl
value_if shown (Some x) h = h x

protocol_object_shows : (p : Protocol) → Shows (protocol_fields p) (object_with (protocol_fields p))
unfolding protocol_fields
protocol_object_shows p = shows_object (protocol_fields p) refl (refl, (refl, (value_if names_data p.reader_features (λ _. refl), (value_if names_data p.writer_features (λ _. refl), tt))))

metadata_object_shows : (m : Metadata) → Shows (metadata_fields m) (object_with (metadata_fields m))
unfolding metadata_fields
metadata_object_shows m = shows_object (metadata_fields m) refl (
  refl,
  (
    value_if whole_data m.created_time (λ _. refl),
    (value_if text_data m.description (λ _. refl), (is_value (format_fields m), (refl, (value_if text_data m.name (λ _. refl), (refl, (refl, tt)))))),
  ),
)

add_object_shows : (f : AddFile) → Shows (add_fields f) (object_with (add_fields f))
unfolding add_fields
add_object_shows f = shows_object (add_fields f) refl (
  value_if whole_data f.base_row_id (λ _. refl),
  (
    value_if text_data f.clustering_provider (λ _. refl),
    (
      refl,
      (
        value_if whole_data f.default_row_commit_version (λ _. refl),
        (refl, (refl, (refl, (refl, (value_if text_data f.stats (λ _. refl), (value_if pairs_data f.tags (λ _. refl), tt)))))),
      ),
    ),
  ),
)

add_object_no_vector : (f : AddFile) → field (codes "deletionVector") (object_with (add_fields f)) ≡ None
unfolding add_fields
add_object_no_vector f = found (codes "deletionVector") (add_fields f)

remove_object_shows : (r : RemoveFile) → Shows (remove_fields r) (object_with (remove_fields r))
unfolding remove_fields
remove_object_shows r = shows_object (remove_fields r) refl (refl, (refl, (refl, tt)))

own_info_shows : (txn_id : List ℕ) (timestamp : ℤ) → Shows (own_info_fields txn_id timestamp) (object_with (own_info_fields txn_id timestamp))
unfolding own_info_fields
own_info_shows txn_id timestamp = shows_object (own_info_fields txn_id timestamp) refl (refl, (refl, (refl, tt)))

txn_object_shows : (t : Txn) → Shows (txn_fields t) (object_with (txn_fields t))
unfolding txn_fields
txn_object_shows t = shows_object (txn_fields t) refl (refl, (value_if whole_data t.last_updated (λ _. refl), (refl, tt)))

domain_object_shows : (d : Domain) → Shows (domain_fields d) (object_with (domain_fields d))
unfolding domain_fields
domain_object_shows d = shows_object (domain_fields d) refl (refl, (refl, (refl, tt)))

checkpoint_meta_object_shows : (m : CheckpointMeta) → Shows (checkpoint_meta_fields m) (object_with (checkpoint_meta_fields m))
unfolding checkpoint_meta_fields
checkpoint_meta_object_shows m = shows_object (checkpoint_meta_fields m) refl (refl, tt)

sidecar_object_shows : (r : SidecarRef) → Shows (sidecar_fields r) (object_with (sidecar_fields r))
unfolding sidecar_fields
sidecar_object_shows r = shows_object (sidecar_fields r) refl (refl, (refl, (refl, tt)))

-- ---- the actions

pub action_back : (a : Action) → is_written a ≡ true → IsInRange a → has_vector a ≡ false → HasRisingKeys a → action_of (object_of a) ≡ Some (Some a)
unfolding object_with all_keys
action_back (action.Protocol p) e range bare keys = ap (λ o. option_map Some (option_map action.Protocol o)) (protocol_shown p _ range (protocol_object_shows p))
action_back (action.Metadata m) e range bare keys = ap (λ o. option_map Some (option_map action.Metadata o)) (metadata_shown m _ range keys.0 keys.1 (metadata_object_shows m))
action_back (action.Add f) e range bare keys = ap (λ o. option_map Some (option_map action.Add o)) (add_shown f _ range keys.0 keys.1 bare (add_object_shows f) (add_object_no_vector f))
action_back (action.Remove r) e range bare keys = ap (λ o. option_map Some (option_map action.Remove o)) (remove_shown r _ range (remove_object_shows r))
action_back (action.Txn t) e range bare keys = ap (λ o. option_map Some (option_map action.Txn o)) (txn_shown t _ range (txn_object_shows t))
action_back (action.Domain d) e range bare keys = ap (λ o. option_map Some (option_map action.Domain o)) (domain_shown d _ (domain_object_shows d))
action_back (action.Info i) e range bare keys = cc
action_back action.Cdc e range bare keys = cc
action_back (action.CheckpointMeta m) e range bare keys = ap (λ o. option_map Some (option_map action.CheckpointMeta o)) (checkpoint_meta_shown m _ range (checkpoint_meta_object_shows m))
action_back (action.Sidecar r) e range bare keys = ap (λ o. option_map Some (option_map action.Sidecar o)) (sidecar_shown r _ range (sidecar_object_shows r))

own_info_read : (txn_id : List ℕ) (timestamp : ℤ) → info_of (object_with (own_info_fields txn_id timestamp)) ≡ record { in_commit_timestamp = None; txn_id = Some txn_id }
unfolding info_of own_info_fields
own_info_read txn_id timestamp =
    let fs = own_info_fields txn_id timestamp in
    let d = object_with fs in
    let time : lenient whole (codes "inCommitTimestamp") d ≡ None = ap (option_and_then whole) (found (codes "inCommitTimestamp") fs) in
    let id : lenient text (codes "txnId") d ≡ Some txn_id = ap (option_and_then text) (shown_at (codes "txnId") fs d _ (own_info_shows txn_id timestamp) refl) in
    rw (time, id)

pub own_info_back : (txn_id : List ℕ) (timestamp : ℤ) → action_of (own_info_object txn_id timestamp) ≡ Some (Some (own_info txn_id))
unfolding object_with all_keys
own_info_back txn_id timestamp = ap (λ i. Some (Some (action.Info i))) (own_info_read txn_id timestamp)
