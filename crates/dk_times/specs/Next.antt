-- The timestamp of a commit after another one (Delta Lake's PROTOCOL.md, "In-Commit Timestamps").
use Rattle.std.specs.Prelude.{ℤ, pos, ◌<ℤ◌, int_le, Option, Some, None, if◌then◌else◌}
use Rattle.dk_lawful.specs.Timestamps.{next_timestamp}

abbrev pub greatest_timestamp : ℤ
greatest_timestamp = pos 9223372036854775807

-- none where the one before is the greatest that there is
abbrev pub timestamp_after : ℤ → Option ℤ → Option ℤ
timestamp_after now None = Some now
timestamp_after now (Some before) = if int_le greatest_timestamp before then None else Some (next_timestamp now (Some before))

-- it is later than the one before, where there is one
abbrev pub IsAfter : Option ℤ → ℤ → Type 0
IsAfter None time = Unit
IsAfter (Some before) time = before <ℤ time
