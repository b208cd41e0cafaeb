-- The rules as they are tested, action by action.
use Rattle.std.specs.Prelude.{ℕ, Bool, true, false, List, [], ◌∷◌, Option, Some}
use Rattle.dk_model.specs.declared.action.Action.{Action}
use Rattle.dk_model.specs.declared.action.Action.TheVariants as action
use Rattle.dk_model.specs.declared.action.Protocol.{Protocol}
use Rattle.dk_model.specs.declared.action.Metadata.{Metadata}
use Rattle.dk_lawful.specs.Rules.{file_path_in, application_in, domain_in}
use Rattle.dk_rules.specs.declared.rules.Key.{Key}
use Rattle.dk_rules.specs.declared.rules.Key.TheVariants as key

-- what an action has of a kind that no two actions may share
abbrev pub key_in : Key → Action → Option (List ℕ)
key_in key.Path a = file_path_in a
key_in key.Application a = application_in a
key_in key.Domain a = domain_in a

-- the last protocol and the last metadata, by those before
abbrev pub last_protocol : Option Protocol → List Action → Option Protocol
last_protocol before [] = before
last_protocol before (action.Protocol p ∷ actions) = last_protocol (Some p) actions
last_protocol before (_ ∷ actions) = last_protocol before actions

abbrev pub last_metadata : Option Metadata → List Action → Option Metadata
last_metadata before [] = before
last_metadata before (action.Metadata m ∷ actions) = last_metadata (Some m) actions
last_metadata before (_ ∷ actions) = last_metadata before actions

-- an action that may stand behind the line in which a commit speaks of itself
abbrev pub stands_behind_own : Action → Bool
stands_behind_own (action.Info i) = false
stands_behind_own action.Cdc = false
stands_behind_own (action.CheckpointMeta m) = false
stands_behind_own (action.Sidecar r) = false
stands_behind_own _ = true
