-- The times that commits say (Delta Lake's PROTOCOL.md, "In-Commit Timestamps").
use Rattle.std.specs.Prelude.{ℕ, ℤ, pos, neg_ℤ, ◌+ℤ◌, List, [], ◌∷◌, codes, Bool, true, false, ◌&&◌, ◌==◌, Option, Some, None, is_none, find, slice_get, nat_le, int_le, int_lt, option_map, if◌then◌else◌}
use Rattle.std.specs.List.{list_all, filter_map}
use Rattle.std.specs.Str.{bytes_eq}
use Rattle.std.specs.Str.Parse.{digits_value}
use Rattle.dk_model.specs.declared.action.Protocol.{Protocol}
use Rattle.dk_model.specs.declared.action.Metadata.{Metadata}
use Rattle.dk_model.specs.declared.action.Action.{Action}
use Rattle.dk_model.specs.declared.action.Action.TheVariants as action
use Rattle.dk_model.specs.Settings.{setting}
use Rattle.dk_features.specs.InForce.{has_feature}
use Rattle.dk_lawful.specs.Written.{in_commit_timestamp}

-- ---- the time of a commit

-- what a commitInfo says, in milliseconds since 1970-01-01T00:00:00Z
abbrev pub time_in : Action → Option ℤ
time_in (action.Info info) = info.in_commit_timestamp
time_in _ = None

-- of a commit: the first that its actions say
abbrev pub timestamp_of : List Action → Option ℤ
timestamp_of actions = slice_get (filter_map time_in actions) 0

-- what its very first action says
abbrev pub said_first : List Action → Option ℤ
said_first [] = None
said_first (a ∷ actions) = time_in a

-- that of the last of some commits, where that has one
abbrev pub last_timestamp : List (List Action) → Option ℤ
last_timestamp [] = None
last_timestamp (commit ∷ []) = timestamp_of commit
last_timestamp (commit ∷ (next ∷ later)) = last_timestamp (next ∷ later)

-- the time that a commit gets at a moment: later than that of the commit before
abbrev pub next_timestamp : ℤ → Option ℤ → ℤ
next_timestamp now None = now
next_timestamp now (Some before) = if int_lt before now then now else before +ℤ pos 1

-- ---- the table's settings

-- a setting that is a flag
abbrev pub is_set : Option (List ℕ) → Bool
is_set None = false
is_set (Some text) = bytes_eq text (codes "true")

-- commits of the table say their time: it has the feature, and is set to use it
unfoldable pub has_timestamps : Option Protocol → Option Metadata → Bool
has_timestamps protocol None = false
has_timestamps protocol (Some m) = has_feature protocol in_commit_timestamp && is_set (setting (codes "delta.enableInCommitTimestamps") m)

-- since which version and which time, where not from version 0 on
abbrev pub enablement_version : List ℕ
enablement_version = codes "delta.inCommitTimestampEnablementVersion"

abbrev pub enablement_timestamp : List ℕ
enablement_timestamp = codes "delta.inCommitTimestampEnablementTimestamp"

-- what a table has under a key, which may be null
abbrev pub entry_under : List ℕ → Option Metadata → Option (Option (List ℕ))
entry_under key None = None
entry_under key (Some m) = option_map (λ pair. pair.1) (find (λ pair. bytes_eq pair.0 key) m.configuration)

-- ---- decimal numbers

abbrev pub is_digit : ℕ → Bool
is_digit byte = nat_le 48 byte && nat_le byte 57

abbrev pub natural_of : List ℕ → Option ℕ
natural_of [] = None
natural_of (byte ∷ text) = if list_all is_digit (byte ∷ text) then Some (digits_value 10 (byte ∷ text)) else None

-- with a minus before it where it is below zero
abbrev pub integer_of : List ℕ → Option ℤ
integer_of [] = None
integer_of (byte ∷ text) = if byte == 45 then option_map (λ n. neg_ℤ (pos n)) (natural_of text) else option_map pos (natural_of (byte ∷ text))

-- the text, where there is one, is of this number
abbrev pub is_number : ℤ → Option ℤ → Bool
is_number number None = false
is_number number (Some read) = int_le read number && int_le number read

abbrev pub says_number : Option (Option (List ℕ)) → ℤ → Bool
says_number None number = false
says_number (Some None) number = false
says_number (Some (Some text)) number = is_number number (integer_of text)

-- ---- what stays

abbrev pub is_same_setting : Option (List ℕ) → Option (List ℕ) → Bool
is_same_setting None None = true
is_same_setting None (Some other) = false
is_same_setting (Some text) None = false
is_same_setting (Some text) (Some other) = bytes_eq text other

abbrev pub is_same_entry : Option (Option (List ℕ)) → Option (Option (List ℕ)) → Bool
is_same_entry None None = true
is_same_entry None (Some other) = false
is_same_entry (Some entry) None = false
is_same_entry (Some entry) (Some other) = is_same_setting entry other

-- both entries are as they were
abbrev pub is_enabled_as_before : Option Metadata → Option Metadata → Bool
is_enabled_as_before before after =
    is_same_entry (entry_under enablement_version before) (entry_under enablement_version after)
    && is_same_entry (entry_under enablement_timestamp before) (entry_under enablement_timestamp after)

-- both say this version and this time
abbrev pub is_enabled_since : ℕ → ℤ → Option Metadata → Bool
is_enabled_since version time after =
    says_number (entry_under enablement_version after) (pos version) && says_number (entry_under enablement_timestamp after) time

-- there is neither
abbrev pub is_enabled_from_start : Option Metadata → Bool
is_enabled_from_start after = is_none (entry_under enablement_version after) && is_none (entry_under enablement_timestamp after)
