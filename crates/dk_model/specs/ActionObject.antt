-- The JSON object of an action (Delta Lake's PROTOCOL.md, "Actions").
use Rattle.std.specs.Prelude.{ℕ, List, [], ◌∷◌, Option, Some, None, option_map, option_and_then, is_some, if◌then◌else◌}
use Rattle.serde_json.specs.Data.{Data}
use Rattle.dk_model.specs.declared.action.Action.{Action}
use Rattle.dk_model.specs.declared.action.Action.TheVariants as action
use Rattle.dk_model.specs.declared.action_key.ActionKey.{ActionKey}
use Rattle.dk_model.specs.declared.action_key.ActionKey.TheVariants as key
use Rattle.dk_model.specs.ActionKeys.{name_of, all_keys}
use Rattle.dk_model.specs.Fields.{field, needed, group}
use Rattle.dk_model.specs.Shown.{object_with}
use Rattle.dk_model.specs.ProtocolObject.{protocol_of, protocol_fields}
use Rattle.dk_model.specs.MetadataObject.{metadata_of, metadata_fields}
use Rattle.dk_model.specs.AddObject.{add_of, add_fields}
use Rattle.dk_model.specs.RemoveObject.{remove_of, remove_fields}
use Rattle.dk_model.specs.TxnObject.{txn_of, txn_fields}
use Rattle.dk_model.specs.DomainObject.{domain_of, domain_fields}
use Rattle.dk_model.specs.InfoObject.{info_of, info_fields}
use Rattle.dk_model.specs.CheckpointObjects.{checkpoint_meta_of, checkpoint_meta_fields, sidecar_of, sidecar_fields}

-- ---- reading

-- a key before the answer of those after it: two keys are no action
abbrev pub joined : ActionKey → Option (Option ActionKey) → Option (Option ActionKey)
joined k None = None
joined k (Some None) = Some (Some k)
joined k (Some (Some l)) = None

-- the one key of these that the object has, or none; no answer where it has two
abbrev pub one_key : Data → List ActionKey → Option (Option ActionKey)
one_key d [] = Some None
one_key d (k ∷ ks) = if is_some (field (name_of k) d) then joined k (one_key d ks) else one_key d ks

-- the action that the object under a key is
abbrev pub action_under : ActionKey → Data → Option Action
action_under key.Protocol d = option_map action.Protocol (protocol_of d)
action_under key.Metadata d = option_map action.Metadata (metadata_of d)
action_under key.Add d = option_map action.Add (add_of d)
action_under key.Remove d = option_map action.Remove (remove_of d)
action_under key.Txn d = option_map action.Txn (txn_of d)
action_under key.Domain d = option_map action.Domain (domain_of d)
action_under key.Info d = Some (action.Info (info_of d))
action_under key.Cdc d = Some action.Cdc
action_under key.CheckpointMeta d = option_map action.CheckpointMeta (checkpoint_meta_of d)
action_under key.Sidecar d = option_map action.Sidecar (sidecar_of d)

-- the value under a key: an object, but for changed rows, whose value is passed over whatever it is
abbrev pub content_form : ActionKey → Data → Option Data
content_form key.Cdc d = Some d
content_form _ d = group d

abbrev pub keyed : Data → Option ActionKey → Option (Option Action)
keyed d None = Some None
keyed d (Some k) = option_map Some (option_and_then (action_under k) (needed (content_form k) (name_of k) d))

-- the action of a value, or nothing to do; no answer where it is no action
abbrev pub action_of : Data → Option (Option Action)
action_of d = option_and_then (λ o. option_and_then (keyed o) (one_key o all_keys)) (group d)

-- ---- writing

abbrev pub key_name : Action → List ℕ
key_name (action.Protocol p) = name_of key.Protocol
key_name (action.Metadata m) = name_of key.Metadata
key_name (action.Add f) = name_of key.Add
key_name (action.Remove r) = name_of key.Remove
key_name (action.Txn t) = name_of key.Txn
key_name (action.Domain d) = name_of key.Domain
key_name (action.Info i) = name_of key.Info
key_name action.Cdc = name_of key.Cdc
key_name (action.CheckpointMeta m) = name_of key.CheckpointMeta
key_name (action.Sidecar r) = name_of key.Sidecar

abbrev pub inner_object : Action → Data
inner_object (action.Protocol p) = object_with (protocol_fields p)
inner_object (action.Metadata m) = object_with (metadata_fields m)
inner_object (action.Add f) = object_with (add_fields f)
inner_object (action.Remove r) = object_with (remove_fields r)
inner_object (action.Txn t) = object_with (txn_fields t)
inner_object (action.Domain d) = object_with (domain_fields d)
inner_object (action.Info i) = object_with (info_fields i)
inner_object action.Cdc = object_with []
inner_object (action.CheckpointMeta m) = object_with (checkpoint_meta_fields m)
inner_object (action.Sidecar r) = object_with (sidecar_fields r)

-- the object of an action
abbrev pub object_of : Action → Data
object_of a = object_with ((key_name a, Some (inner_object a)) ∷ [])
