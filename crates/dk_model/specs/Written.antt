-- The text of a list of actions: one compact line each, with the keys of every object in byte order.
use Rattle.std.specs.Prelude.{ℕ, ℤ, List, [], ◌∷◌, ◌++◌, flat_map}
use Rattle.serde_json.specs.Written.{compact_text}
use Rattle.dk_model.specs.declared.action.Action.{Action}
use Rattle.dk_model.specs.declared.action.Action.TheVariants as action
use Rattle.dk_model.specs.ActionObject.{object_of}
use Rattle.dk_model.specs.InfoObject.{own_info_object}

-- a line, with its newline
abbrev pub line_of : Action → List ℕ
line_of a = compact_text (object_of a) ++ 10 ∷ []

-- what is written of an action: what another writer said of its commit is left out, and so are changed rows
abbrev pub written_line : Action → List ℕ
written_line (action.Protocol p) = line_of (action.Protocol p)
written_line (action.Metadata m) = line_of (action.Metadata m)
written_line (action.Add f) = line_of (action.Add f)
written_line (action.Remove r) = line_of (action.Remove r)
written_line (action.Txn t) = line_of (action.Txn t)
written_line (action.Domain d) = line_of (action.Domain d)
written_line (action.Info i) = []
written_line action.Cdc = []
written_line (action.CheckpointMeta m) = line_of (action.CheckpointMeta m)
written_line (action.Sidecar r) = line_of (action.Sidecar r)

abbrev pub text_of : List Action → List ℕ
text_of actions = flat_map written_line actions

-- the line in which a transaction speaks of its own commit
abbrev pub own_info_line : List ℕ → ℤ → List ℕ
own_info_line txn_id timestamp = compact_text (own_info_object txn_id timestamp) ++ 10 ∷ []
