-- The rules of a commit look at no more of the state before than its protocol and its metadata.
use Rattle.std.proofs.Common.{◌≡◌, ℕ, ℤ, not, ◌&&◌, List, [], ◌∷◌, Option, Some, None, if◌then◌else◌, refl, ap₂, ◌∙◌, filter_map}
use Rattle.std.specs.Prelude.{◌||◌}
use Rattle.std.specs.List.{list_any, list_all}
use Rattle.dk_model.specs.declared.action.Action.{Action}
use Rattle.dk_model.specs.declared.action.Action.TheVariants as action
use Rattle.dk_model.specs.declared.action.Protocol.{Protocol}
use Rattle.dk_model.specs.declared.action.Metadata.{Metadata}
use Rattle.dk_model.specs.declared.state.TableState.{TableState}
use Rattle.dk_model.specs.State.{step, steps}
use Rattle.dk_features.specs.Names.{domain_metadata}
use Rattle.dk_features.specs.InForce.{has_feature}
use Rattle.dk_model.specs.Changes.{protocol_in}
use Rattle.dk_model.specs.Rows.{removes_rows}
use Rattle.dk_lawful.specs.Rules.{is_protocol_kept, is_append_only, is_domain, keeps_heads, keeps_kinds, keeps_paths_apart, keeps_names_apart, keeps_times_by, begins_unenabled, stays_managed, keeps_adds}
use Rattle.dk_lawful.specs.Written.{is_table_written}
use Rattle.dk_lawful.specs.Timestamps.{has_timestamps, said_first}
use Rattle.dk_lawful.specs.Laws.{RulesByHeads, AgreeingHaveSameRules}

pub protocol_after : (before other : TableState) (actions : List Action) → before.protocol ≡ other.protocol → (steps before actions).protocol ≡ (steps other actions).protocol
protocol_after before other [] same = same
protocol_after before other (action.Protocol p ∷ rest) same = protocol_after (step before (action.Protocol p)) (step other (action.Protocol p)) rest refl
protocol_after before other (a ∷ rest) same = protocol_after (step before a) (step other a) rest same

pub metadata_after : (before other : TableState) (actions : List Action) → before.metadata ≡ other.metadata → (steps before actions).metadata ≡ (steps other actions).metadata
metadata_after before other [] same = same
metadata_after before other (action.Metadata m ∷ rest) same = metadata_after (step before (action.Metadata m)) (step other (action.Metadata m)) rest refl
metadata_after before other (a ∷ rest) same = metadata_after (step before a) (step other a) rest same

-- the first broken rule, by the protocol and the metadata before and after
abbrev broken_by : Option ℤ → ℕ → List Action → Option Protocol → Option Metadata → Option Protocol → Option Metadata → Option ℕ
broken_by last version actions p m p_after m_after =
    if not (keeps_heads version actions) then Some 1
    else if not (keeps_kinds actions) then Some 2
    else if not (keeps_paths_apart actions) then Some 3
    else if not (keeps_names_apart actions) then Some 4
    else if not (list_all (is_protocol_kept p) (filter_map protocol_in actions)) then Some 5
    else if not (is_table_written p_after m_after) then Some 6
    else if not (not (is_append_only p m && list_any removes_rows actions)) then Some 7
    else if not (not (list_any is_domain actions) || has_feature p_after domain_metadata) then Some 8
    else if not (keeps_times_by (has_timestamps p m) (has_timestamps p_after m_after) last version m m_after (said_first actions) && begins_unenabled version m_after) then Some 9
    else if not (stays_managed p p_after m_after) then Some 10
    else if not (keeps_adds actions) then Some 11
    else None

pub rules_by_heads : RulesByHeads
rules_by_heads before other last version actions protocol metadata =
    ap₂ (λ p m. broken_by last version actions p m (steps before actions).protocol (steps before actions).metadata) protocol metadata
    ∙ ap₂ (λ p m. broken_by last version actions other.protocol other.metadata p m) (protocol_after before other actions protocol) (metadata_after before other actions metadata)

pub agreeing_have_same_rules : AgreeingHaveSameRules
agreeing_have_same_rules state whole horizon last version actions agree = rules_by_heads state whole last version actions agree.protocol agree.metadata
