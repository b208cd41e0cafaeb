-- Which version is opened.
use Rattle.std.specs.Prelude.{ℕ, Option, Some, None, Result, Ok, Err, nat_le, if◌then◌else◌}
use Rattle.dk_paths.specs.Names.{commit_path}
use Rattle.dk_engine.specs.declared.refusal.Refusal.{Refusal}
use Rattle.dk_engine.specs.declared.refusal.Refusal.TheVariants.{Missing, NoVersion}

-- the asked version is at most the latest
abbrev pub version_at : Option ℕ → ℕ → Result ℕ Refusal
version_at None latest = Ok latest
version_at (Some version) latest = if nat_le version latest then Ok version else Err (NoVersion latest)

-- the asked version, or the latest one; an empty log lacks its first commit
abbrev pub version_asked : Option ℕ → Option ℕ → Result ℕ Refusal
version_asked at None = Err (Missing (commit_path 0))
version_asked at (Some latest) = version_at at latest
