-- The rules of a commit by their numbers, over the commits before it and its actions (Delta Lake's PROTOCOL.md, "Actions", "Protocol
-- Evolution", "Requirements for Writers", "In-Commit Timestamps", "Catalog-managed tables").
use Rattle.std.specs.Prelude.{◌≡◌, ℕ, zero, suc, ℤ, pos, Bool, true, false, not, ◌==◌, ◌&&◌, ◌||◌, nat_le, int_le, int_lt, List, Option, Some, None, length, codes, if◌then◌else◌}
use Rattle.std.specs.List.{list_any, list_all, filter_map}
use Rattle.dk_model.specs.declared.action.Protocol.{Protocol}
use Rattle.dk_model.specs.declared.action.Metadata.{Metadata}
use Rattle.dk_model.specs.declared.action.CommitInfo.{CommitInfo}
use Rattle.dk_model.specs.declared.action.Action.{Action}
use Rattle.dk_model.specs.declared.action.Action.TheVariants as action
use Rattle.dk_model.specs.declared.state.TableState.{TableState}
use Rattle.dk_model.specs.State.{steps, fold}
use Rattle.dk_model.specs.Changes.{protocol_in, metadata_in}
use Rattle.dk_model.specs.Rows.{removes_rows}
use Rattle.dk_model.specs.Settings.{setting}
use Rattle.dk_features.specs.Names.{append_only, domain_metadata, catalog_managed}
use Rattle.dk_features.specs.InForce.{has_feature}
use Rattle.dk_features.specs.Forms.{is_each_once, has_form, keeps_features}
use Rattle.dk_lawful.specs.Written.{is_table_written}
use Rattle.dk_lawful.specs.Timestamps.{is_set, has_timestamps, said_first, last_timestamp, is_enabled_as_before, is_enabled_since, is_enabled_from_start}

-- the paths of a commit's file actions
abbrev pub file_path_in : Action → Option (List ℕ)
file_path_in (action.Add f) = Some f.path
file_path_in (action.Remove r) = Some r.path
file_path_in _ = None

-- rule 1: version 0 has exactly one of each, a later version at most one
abbrev pub is_count_allowed : ℕ → ℕ → Bool
is_count_allowed zero count = count == 1
is_count_allowed (suc version) count = nat_le count 1

abbrev pub keeps_heads : ℕ → List Action → Bool
keeps_heads version actions = is_count_allowed version (length (filter_map protocol_in actions)) && is_count_allowed version (length (filter_map metadata_in actions))

-- rule 2: at most one commitInfo, and none of cdc, checkpointMetadata and sidecar
abbrev pub info_in : Action → Option CommitInfo
info_in (action.Info i) = Some i
info_in _ = None

abbrev pub may_be_committed : Action → Bool
may_be_committed action.Cdc = false
may_be_committed (action.CheckpointMeta m) = false
may_be_committed (action.Sidecar r) = false
may_be_committed _ = true

abbrev pub keeps_kinds : List Action → Bool
keeps_kinds actions = nat_le (length (filter_map info_in actions)) 1 && list_all may_be_committed actions

-- rule 3: no path stands in two file actions
abbrev pub keeps_paths_apart : List Action → Bool
keeps_paths_apart actions = is_each_once (filter_map file_path_in actions)

-- rule 4: no application stands in two txn actions, and no domain in two domainMetadata actions
abbrev pub application_in : Action → Option (List ℕ)
application_in (action.Txn t) = Some t.app_id
application_in _ = None

abbrev pub domain_in : Action → Option (List ℕ)
domain_in (action.Domain d) = Some d.domain
domain_in _ = None

abbrev pub keeps_names_apart : List Action → Bool
keeps_names_apart actions = is_each_once (filter_map application_in actions) && is_each_once (filter_map domain_in actions)

-- rule 5: a protocol has one of its forms; neither version is lower than before, and each feature in force before is in force after
abbrev pub is_not_lower : Protocol → Protocol → Bool
is_not_lower before p = nat_le before.min_reader p.min_reader && nat_le before.min_writer p.min_writer

abbrev pub may_follow : Option Protocol → Protocol → Bool
may_follow None p = true
may_follow (Some before) p = is_not_lower before p && keeps_features before p

abbrev pub is_protocol_kept : Option Protocol → Protocol → Bool
is_protocol_kept before p = has_form p && may_follow before p

abbrev pub keeps_protocol : TableState → List Action → Bool
keeps_protocol before actions = list_all (is_protocol_kept before.protocol) (filter_map protocol_in actions)

-- rule 6: the state after the commit can be written
abbrev pub keeps_writer : TableState → List Action → Bool
keeps_writer before actions = is_table_written (steps before actions).protocol (steps before actions).metadata

-- rule 7: no rows are removed from a table that was set to be appended to alone
unfoldable pub is_append_only : Option Protocol → Option Metadata → Bool
is_append_only protocol None = false
is_append_only protocol (Some m) = has_feature protocol append_only && is_set (setting (codes "delta.appendOnly") m)

abbrev pub keeps_rows : TableState → List Action → Bool
keeps_rows before actions = not (is_append_only before.protocol before.metadata && list_any removes_rows actions)

-- rule 8: a domainMetadata needs its feature in force after the commit
abbrev pub is_domain : Action → Bool
is_domain (action.Domain d) = true
is_domain _ = false

abbrev pub keeps_domains : TableState → List Action → Bool
keeps_domains before actions = not (list_any is_domain actions) || has_feature (steps before actions).protocol domain_metadata

-- Rule 9: where commits of the table say their time after the commit, so does its first action. Where they did before, its time is later
-- than that of the commit before, if that says one, and the enablement stays; where they begin to after version 0, the enablement is this
-- version and this time. They don't cease to. Version 0 has no enablement.
abbrev pub comes_later : Option ℤ → ℤ → Bool
comes_later None time = true
comes_later (Some before) time = int_lt before time

abbrev pub goes_on_with : Bool → Option ℤ → ℕ → Option Metadata → Option Metadata → ℤ → Bool
goes_on_with true last version before after time = comes_later last time && is_enabled_as_before before after
goes_on_with false last zero before after time = true
goes_on_with false last (suc version) before after time = is_enabled_since (suc version) time after

abbrev pub says_time : Bool → Option ℤ → ℕ → Option Metadata → Option Metadata → Option ℤ → Bool
says_time said last version before after None = false
says_time said last version before after (Some time) = goes_on_with said last version before after time

abbrev pub keeps_times_by : Bool → Bool → Option ℤ → ℕ → Option Metadata → Option Metadata → Option ℤ → Bool
keeps_times_by said false last version before after time = not said
keeps_times_by said true last version before after time = says_time said last version before after time

abbrev pub begins_unenabled : ℕ → Option Metadata → Bool
begins_unenabled zero after = is_enabled_from_start after
begins_unenabled (suc version) after = true

abbrev pub keeps_times : TableState → Option ℤ → ℕ → List Action → Bool
keeps_times before last version actions =
    keeps_times_by (has_timestamps before.protocol before.metadata) (has_timestamps (steps before actions).protocol (steps before actions).metadata) last version
    before.metadata (steps before actions).metadata (said_first actions)
    && begins_unenabled version (steps before actions).metadata

-- rule 10: commits of a table that a catalogue manages say their time, and it stays managed
abbrev pub stays_managed : Option Protocol → Option Protocol → Option Metadata → Bool
stays_managed before after metadata =
    (not (has_feature after catalog_managed) || has_timestamps after metadata) && (not (has_feature before catalog_managed) || has_feature after catalog_managed)

abbrev pub keeps_management : TableState → List Action → Bool
keeps_management before actions = stays_managed before.protocol (steps before actions).protocol (steps before actions).metadata

-- rule 11: each add has a size of at least 0 and no deletion vector
abbrev pub is_plain_add : Action → Bool
is_plain_add (action.Add f) = int_le (pos 0) f.size && not f.vector
is_plain_add _ = true

abbrev pub keeps_adds : List Action → Bool
keeps_adds actions = list_all is_plain_add actions

-- the least number of a rule that the commit breaks, as this version after this state and after a commit that says this time
abbrev pub first_broken : TableState → Option ℤ → ℕ → List Action → Option ℕ
first_broken before last version actions =
    if not (keeps_heads version actions) then Some 1
    else if not (keeps_kinds actions) then Some 2
    else if not (keeps_paths_apart actions) then Some 3
    else if not (keeps_names_apart actions) then Some 4
    else if not (keeps_protocol before actions) then Some 5
    else if not (keeps_writer before actions) then Some 6
    else if not (keeps_rows before actions) then Some 7
    else if not (keeps_domains before actions) then Some 8
    else if not (keeps_times before last version actions) then Some 9
    else if not (keeps_management before actions) then Some 10
    else if not (keeps_adds actions) then Some 11
    else None

-- the commit keeps all rules there
abbrev pub KeepsRules : TableState → Option ℤ → ℕ → List Action → Type 0
KeepsRules before last version actions = first_broken before last version actions ≡ None

-- it may come after these commits
abbrev pub IsValidNext : List (List Action) → List Action → Type 0
IsValidNext commits actions = KeepsRules (fold commits) (last_timestamp commits) (length commits) actions
