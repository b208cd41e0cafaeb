-- The keys of actions in the JSON object of a line (Delta Lake's PROTOCOL.md, "Actions").
use Rattle.std.specs.Prelude.{ℕ, List, [], ◌∷◌, codes}
use Rattle.dk_model.specs.declared.action_key.ActionKey.{ActionKey}
use Rattle.dk_model.specs.declared.action_key.ActionKey.TheVariants as key

abbrev pub name_of : ActionKey → List ℕ
name_of key.Protocol = codes "protocol"
name_of key.Metadata = codes "metaData"
name_of key.Add = codes "add"
name_of key.Remove = codes "remove"
name_of key.Txn = codes "txn"
name_of key.Domain = codes "domainMetadata"
name_of key.Info = codes "commitInfo"
name_of key.Cdc = codes "cdc"
name_of key.CheckpointMeta = codes "checkpointMetadata"
name_of key.Sidecar = codes "sidecar"

unfoldable pub all_keys : List ActionKey
all_keys = key.Protocol ∷ key.Metadata ∷ key.Add ∷ key.Remove ∷ key.Txn ∷ key.Domain ∷ key.Info ∷ key.Cdc ∷ key.CheckpointMeta ∷ key.Sidecar ∷ []
