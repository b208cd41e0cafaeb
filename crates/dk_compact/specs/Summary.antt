-- The sum of commits (Delta Lake's PROTOCOL.md, "Log Compaction Files"): the last action on each key, and nothing else.
use Rattle.std.specs.Prelude.{ℕ, Bool, true, false, List, [], ◌∷◌, ◌++◌, map, reverse, find, Option, Some, None, option_map}
use Rattle.std.specs.Option.{option_to_list}
use Rattle.std.specs.List.{filter_map}
use Rattle.dk_model.specs.declared.action.Action.{Action}
use Rattle.dk_model.specs.declared.action.Action.TheVariants as action
use Rattle.dk_lawful.specs.Agree.{SumsCommits}
use Rattle.dk_compact.specs.Settled.{settled}
use Rattle.dk_compact.specs.Keyed.{Keyed, in_order, actions_in}

-- ---- the keys

abbrev pub sets_protocol : Action → Bool
sets_protocol (action.Protocol p) = true
sets_protocol a = false

abbrev pub sets_metadata : Action → Bool
sets_metadata (action.Metadata m) = true
sets_metadata a = false

abbrev pub application_key : Action → Option (List ℕ)
application_key (action.Txn t) = Some t.app_id
application_key a = None

abbrev pub domain_key : Action → Option (List ℕ)
domain_key (action.Domain d) = Some d.domain
domain_key a = None

abbrev pub path_key : Action → Option (List ℕ)
path_key (action.Add f) = Some f.path
path_key (action.Remove r) = Some r.path
path_key a = None

-- ---- the last action on each key

abbrev pub all_actions : List (List Action) → List Action
all_actions [] = []
all_actions (c ∷ cs) = c ++ all_actions cs

-- the action under its key
abbrev pub under_key : (Action → Option (List ℕ)) → Action → Option (List ℕ × Action)
under_key key a = option_map (λ k. (k, a)) (key a)

-- of actions that stand newest first, the newest on each key, in the order of the keys
abbrev pub newest_each : (Action → Option (List ℕ)) → List Action → Keyed
newest_each key newest_first = in_order (filter_map (under_key key) newest_first)

-- protocol, metadata, applications, domains, paths
abbrev pub newest_on_keys : List Action → List Action
newest_on_keys newest_first =
    option_to_list (find sets_protocol newest_first) ++ (option_to_list (find sets_metadata newest_first)
    ++ (actions_in (newest_each application_key newest_first) ++ (actions_in (newest_each domain_key newest_first)
    ++ actions_in (newest_each path_key newest_first))))

abbrev pub summary_of : List (List Action) → List Action
summary_of commits = map settled (newest_on_keys (reverse (all_actions commits)))

-- from every state the sum leads to where the commits lead
abbrev pub SummariesSum : Type 0
SummariesSum = (commits : List (List Action)) → SumsCommits (summary_of commits) commits
