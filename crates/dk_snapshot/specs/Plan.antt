-- Which commits stand in the log.
use Rattle.std.specs.Prelude.{ℕ, suc, zero, Bool, List, Option, Some, None, is_some, if◌then◌else◌}
use Rattle.dk_store.specs.Told.{Told}
use Rattle.dk_store.specs.Objects.{object}
use Rattle.dk_paths.specs.Names.{commit_path}

-- whether the commit of a version stands in the log
abbrev pub commit_stands : List Told → ℕ → Bool
commit_stands events version = is_some (object events (commit_path version))

-- the greatest number below a limit that passes the test
unfoldable pub greatest_below : (ℕ → Bool) → ℕ → Option ℕ
greatest_below test zero = None
greatest_below test (suc version) = if test version then Some version else greatest_below test version
