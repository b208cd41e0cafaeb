-- Names of the log stand in byte order as their versions do.
use Rattle.std.specs.Prelude.{◌≡◌, ℕ, ◌^◌, ◌<◌, List, ◌++◌}
use Rattle.std.specs.Ordering.{nat_cmp, ordering_then}
use Rattle.std.specs.Cmp.Lexicographic.{slice_cmp}
use Rattle.dk_paths.specs.Numbers.{version_text}
use Rattle.dk_paths.specs.Names.{commit_name}

-- two texts that begin with versions compare as these do, and those of one version as what follows it
abbrev pub VersionsOrderTexts : Type 0
VersionsOrderTexts = (v w : ℕ) (rest rest' : List ℕ) → v < 2 ^ 63 → w < 2 ^ 63
    → slice_cmp nat_cmp (version_text v ++ rest) (version_text w ++ rest') ≡ ordering_then (nat_cmp v w) (slice_cmp nat_cmp rest rest')

-- the names of commits compare as their versions do
abbrev pub VersionsOrderCommits : Type 0
VersionsOrderCommits = (v w : ℕ) → v < 2 ^ 63 → w < 2 ^ 63 → slice_cmp nat_cmp (commit_name v) (commit_name w) ≡ nat_cmp v w
