-- What a transaction commits after some commits: a line of its own, and then the actions put (Delta Lake's PROTOCOL.md, "Commit Provenance
-- Information", "In-Commit Timestamps").
use Rattle.std.specs.Prelude.{◌≡◌, ℕ, zero, suc, ℤ, pos, negsuc, List, [], ◌∷◌, map, length, decimal, Bool, false, not, ◌&&◌, Option, Some, None, if◌then◌else◌}
use Rattle.std.specs.Ordering.{nat_cmp}
use Rattle.std.specs.Cmp.Lexicographic.{slice_cmp}
use Rattle.std.specs.declared.cmp.Ordering.{Ordering}
use Rattle.std.specs.declared.cmp.Ordering.TheVariants.{Less, Equal, Greater}
use Rattle.dk_model.specs.declared.action.Action.{Action}
use Rattle.dk_model.specs.declared.action.Action.TheVariants as action
use Rattle.dk_model.specs.declared.state.TableState.{TableState}
use Rattle.dk_model.specs.State.{steps, fold}
use Rattle.dk_model.specs.ReadBack.{own_info}
use Rattle.dk_lawful.specs.Timestamps.{has_timestamps, last_timestamp, next_timestamp, enablement_version, enablement_timestamp}

-- ---- the settings that say since when commits say their times

abbrev pub Setting : Type 0
Setting = List ℕ × Option (List ℕ)

-- one more setting before those behind it, in place of one of its key, or behind some
abbrev pub setting_placed : Ordering → Setting → Setting → List Setting → List Setting → List Setting
setting_placed Less setting first later behind = setting ∷ (first ∷ later)
setting_placed Equal setting first later behind = setting ∷ later
setting_placed Greater setting first later behind = first ∷ behind

-- settings stand in the order of their keys
abbrev pub with_setting : Setting → List Setting → List Setting
with_setting setting [] = setting ∷ []
with_setting setting (first ∷ later) = setting_placed (slice_cmp nat_cmp setting.0 first.0) setting first later (with_setting setting later)

abbrev pub integer_text : ℤ → List ℕ
integer_text (pos n) = decimal n
integer_text (negsuc n) = 45 ∷ decimal (suc n)

abbrev pub with_enablement : ℕ → ℤ → Action → Action
with_enablement version time (action.Metadata m) =
    action.Metadata (record m {
      configuration = with_setting (enablement_timestamp, Some (integer_text time)) (with_setting (enablement_version, Some (decimal version)) m.configuration);
    })
with_enablement version time a = a

-- ---- its time

abbrev pub says_times : TableState → Bool
says_times state = has_timestamps state.protocol state.metadata

-- after the commits before, where these say their times
abbrev pub time_before : List (List Action) → Option ℤ
time_before commits = if says_times (fold commits) then last_timestamp commits else None

abbrev pub time_at : List (List Action) → ℤ → ℤ
time_at commits now = next_timestamp now (time_before commits)

-- the actions have the table's commits say their times, which they didn't before, from a version after 0 on
abbrev pub begins_times : TableState → ℕ → List Action → Bool
begins_times before zero put = false
begins_times before (suc version) put = not (says_times before) && says_times (steps before put)

-- ---- what it commits

-- its own line, by its id, with its time where the table's commits say their times
abbrev pub own_line : List ℕ → Option ℤ → Action
own_line txn_id time = action.Info (record { in_commit_timestamp = time; txn_id = Some txn_id })

abbrev pub put_at : List (List Action) → ℤ → List Action → List Action
put_at commits time put = if begins_times (fold commits) (length commits) put then map (with_enablement (length commits) time) put else put

-- at a moment, in milliseconds since 1970-01-01T00:00:00Z, after these commits
abbrev pub transacted : List (List Action) → ℤ → List ℕ → List Action → List Action
transacted commits now txn_id put =
    own_line txn_id (if says_times (steps (fold commits) put) then Some (time_at commits now) else None) ∷ put_at commits (time_at commits now) put

-- ---- the law

-- Where the table's commits don't say their times after it, it is the line of its id, and then the actions as they were put.
abbrev pub TransactedPlainly : Type 0
TransactedPlainly = (commits : List (List Action)) (now : ℤ) (txn_id : List ℕ) (put : List Action) → says_times (steps (fold commits) put) ≡ false
    → transacted commits now txn_id put ≡ own_info txn_id ∷ put
