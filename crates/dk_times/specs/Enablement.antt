-- Since when the commits of a table say their times (Delta Lake's PROTOCOL.md, "In-Commit Timestamps").
use Rattle.std.specs.Prelude.{ℕ, ◌^◌, ℤ, negsuc, List, Bool, ◌&&◌, nat_le, int_le, Option, Some, None, option_and_then, unwrap_or, if◌then◌else◌}
use Rattle.dk_model.specs.declared.action.Metadata.{Metadata}
use Rattle.dk_model.specs.declared.state.TableState.{TableState}
use Rattle.dk_model.specs.Settings.{setting}
use Rattle.dk_model.specs.Fields.{below}
use Rattle.dk_lawful.specs.Timestamps.{natural_of, integer_of, has_timestamps, enablement_version, enablement_timestamp}
use Rattle.dk_times.specs.Next.{greatest_timestamp}

abbrev pub least_timestamp : ℤ
least_timestamp = negsuc 9223372036854775807

abbrev pub setting_of : List ℕ → Option Metadata → Option (List ℕ)
setting_of key None = None
setting_of key (Some metadata) = setting key metadata

-- a decimal number from 0 to 9,223,372,036,854,775,807
abbrev pub version_in : List ℕ → Option ℕ
version_in text = option_and_then (below (2 ^ 63)) (natural_of text)

-- a decimal number in the range of i64
abbrev pub timestamp_in : List ℕ → Option ℤ
timestamp_in text = option_and_then (λ z. if int_le least_timestamp z && int_le z greatest_timestamp then Some z else None) (integer_of text)

-- the version from which on they do: 0 where the setting is absent or no such number
abbrev pub enabled_version : Option Metadata → ℕ
enabled_version metadata = unwrap_or (option_and_then version_in (setting_of enablement_version metadata)) 0

-- its time: the least where the setting is absent or no such number
abbrev pub enabled_timestamp : Option Metadata → ℤ
enabled_timestamp metadata = unwrap_or (option_and_then timestamp_in (setting_of enablement_timestamp metadata)) least_timestamp

-- the commit of a version says its time, by the latest state
abbrev pub says_time : TableState → ℕ → Bool
says_time state version = has_timestamps state.protocol state.metadata && nat_le (enabled_version state.metadata) version
