-- The limits of the program.
use Rattle.std.specs.Prelude.{◌≤◌}
use Rattle.dk_engine.specs.declared.limits.Limits.{Limits}

abbrev pub usual : Limits
usual = record { object = 268435456; rows = 1073741824; input = 268435456; line = 16777216; lines = 1000000 }

-- no limit is above its usual number
pub record AreWithin (limits : Limits) : Type 0 where
  pub object : limits.object ≤ 268435456
  pub rows : limits.rows ≤ 1073741824
  pub input : limits.input ≤ 268435456
  pub line : limits.line ≤ 16777216
  pub lines : limits.lines ≤ 1000000
