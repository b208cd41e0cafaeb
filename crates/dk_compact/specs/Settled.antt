-- An action that doesn't say that it changes data.
use Rattle.std.specs.Prelude.{false}
use Rattle.dk_model.specs.declared.action.Action.{Action}
use Rattle.dk_model.specs.declared.action.Action.TheVariants as action

abbrev pub settled : Action → Action
settled (action.Protocol p) = action.Protocol p
settled (action.Metadata m) = action.Metadata m
settled (action.Add f) = action.Add (record f { data_change = false })
settled (action.Remove r) = action.Remove (record r { data_change = false })
settled (action.Txn t) = action.Txn t
settled (action.Domain d) = action.Domain d
settled (action.Info i) = action.Info i
settled action.Cdc = action.Cdc
settled (action.CheckpointMeta m) = action.CheckpointMeta m
settled (action.Sidecar s) = action.Sidecar s
