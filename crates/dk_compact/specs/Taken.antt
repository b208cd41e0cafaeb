-- The last action on each key, taken one after the other.
use Rattle.std.specs.Prelude.{List, [], ◌∷◌, ◌++◌, Some, None}
use Rattle.std.specs.Option.{option_to_list}
use Rattle.dk_model.specs.declared.action.Action.{Action}
use Rattle.dk_model.specs.declared.action.Action.TheVariants as action
use Rattle.dk_compact.specs.Keyed.{put_text, actions_in}
use Rattle.dk_compact.specs.declared.newest.Newest.{Newest}

abbrev pub empty_newest : Newest
empty_newest = record { protocol = None; metadata = None; applications = []; domains = []; paths = [] }

abbrev pub newest_with : Newest → Action → Newest
newest_with n (action.Protocol p) = record n { protocol = Some (action.Protocol p) }
newest_with n (action.Metadata m) = record n { metadata = Some (action.Metadata m) }
newest_with n (action.Add f) = record n { paths = put_text n.paths f.path (action.Add f) }
newest_with n (action.Remove r) = record n { paths = put_text n.paths r.path (action.Remove r) }
newest_with n (action.Txn t) = record n { applications = put_text n.applications t.app_id (action.Txn t) }
newest_with n (action.Domain d) = record n { domains = put_text n.domains d.domain (action.Domain d) }
newest_with n (action.Info i) = n
newest_with n action.Cdc = n
newest_with n (action.CheckpointMeta m) = n
newest_with n (action.Sidecar s) = n

abbrev pub taken_all : Newest → List Action → Newest
taken_all n [] = n
taken_all n (a ∷ rest) = taken_all (newest_with n a) rest

abbrev pub taken_each : Newest → List (List Action) → Newest
taken_each n [] = n
taken_each n (c ∷ cs) = taken_each (taken_all n c) cs

abbrev pub taken_commits : List (List Action) → Newest
taken_commits commits = taken_each empty_newest commits

-- protocol, metadata, applications, domains, paths
abbrev pub in_order_of_kinds : Newest → List Action
in_order_of_kinds n =
    option_to_list n.protocol ++ (option_to_list n.metadata ++ (actions_in n.applications ++ (actions_in n.domains ++ actions_in n.paths)))
