-- The greatest versions of a listing (Delta Lake's PROTOCOL.md, "Delta Log Entries", "Checkpoints").
use Rattle.std.specs.Prelude.{ℕ, zero, suc, ◌==◌, ◌&&◌, nat_lt, max, Bool, true, false, Option, Some, None, is_some, List, map, if◌then◌else◌}
use Rattle.std.specs.List.{list_any, filter, fold}
use Rattle.dk_store.specs.declared.event.Ratification.{Ratification}
use Rattle.dk_paths.specs.declared.log_name.LogName.{LogName}
use Rattle.dk_paths.specs.declared.log_name.LogName.TheVariants.{Commit, Classic, Part, V2Json, V2Parquet, Compacted, Hint, Other}
use Rattle.dk_listing.specs.declared.named.Named.{Named}

-- the greater of two versions that may be absent
abbrev pub later : Option ℕ → Option ℕ → Option ℕ
later None other = other
later (Some one) None = Some one
later (Some one) (Some other) = Some (max one other)

-- the greatest of the versions that these have
abbrev pub newest_by : {X : Type 0} → (X → Option ℕ) → List X → Option ℕ
newest_by version xs = fold (λ best x. later best (version x)) None xs

-- ---- commits

-- the version of a commit's name
abbrev pub commit_version : LogName → Option ℕ
commit_version (Commit version) = Some version
commit_version (Classic version) = None
commit_version (Part version part parts) = None
commit_version (V2Json version id) = None
commit_version (V2Parquet version id) = None
commit_version (Compacted first last) = None
commit_version Hint = None
commit_version Other = None

abbrev pub newest_commit : List Named → Option ℕ
newest_commit log = newest_by (λ named. commit_version named.name) log

abbrev pub newest_ratified : List Ratification → Option ℕ
newest_ratified ratified = newest_by (λ ratification. Some ratification.version) ratified

-- ---- checkpoints

-- the numbers from 1 to this one all pass the test
unfoldable pub all_up_to : (ℕ → Bool) → ℕ → Bool
all_up_to test zero = true
all_up_to test (suc number) = test (suc number) && all_up_to test number

-- Whose complete checkpoint a name begins, where `has` tells the parts that are there by version, number of parts and own number: a
-- checkpoint in parts begins with its part 1 and is complete where all of them are; each other one is complete by itself.
abbrev pub complete_version : (ℕ → ℕ → ℕ → Bool) → LogName → Option ℕ
complete_version has (Classic version) = Some version
complete_version has (V2Json version id) = Some version
complete_version has (V2Parquet version id) = Some version
complete_version has (Part version part parts) = if part == 1 && all_up_to (has version parts) parts then Some version else None
complete_version has (Commit version) = None
complete_version has (Compacted first last) = None
complete_version has Hint = None
complete_version has Other = None

-- whether a name is that of a part, by version, number of parts and own number
abbrev pub is_part : ℕ → ℕ → ℕ → LogName → Bool
is_part version parts part (Part v o p) = v == version && (p == parts && o == part)
is_part version parts part (Commit v) = false
is_part version parts part (Classic v) = false
is_part version parts part (V2Json v id) = false
is_part version parts part (V2Parquet v id) = false
is_part version parts part (Compacted first last) = false
is_part version parts part Hint = false
is_part version parts part Other = false

-- whether a part is listed
abbrev pub lists_part : List Named → ℕ → ℕ → ℕ → Bool
lists_part log version parts part = list_any (λ named. is_part version parts part named.name) log

abbrev pub newest_checkpoint : List Named → Option ℕ
newest_checkpoint log = newest_by (λ named. complete_version (lists_part log) named.name) log

-- each complete checkpoint of a log by the name that begins it, in order, where `has` tells the parts that are there
abbrev pub complete_names : (ℕ → ℕ → ℕ → Bool) → List Named → List LogName
complete_names has log = map (λ named. named.name) (filter (λ named. is_some (complete_version has named.name)) log)

abbrev pub complete_checkpoints : List Named → List LogName
complete_checkpoints log = complete_names (lists_part log) log

-- the version of a checkpoint's object, by its name
abbrev pub checkpoint_version : LogName → Option ℕ
checkpoint_version (Commit version) = None
checkpoint_version (Classic version) = Some version
checkpoint_version (Part version part parts) = Some version
checkpoint_version (V2Json version id) = Some version
checkpoint_version (V2Parquet version id) = Some version
checkpoint_version (Compacted first last) = None
checkpoint_version Hint = None
checkpoint_version Other = None

-- ---- every name

-- the version that a name begins with, or 0
abbrev pub version_named : LogName → ℕ
version_named (Commit version) = version
version_named (Classic version) = version
version_named (Part version part parts) = version
version_named (V2Json version id) = version
version_named (V2Parquet version id) = version
version_named (Compacted first last) = first
version_named Hint = 0
version_named Other = 0

-- whether a compacted file ends at a later version than it begins with
abbrev pub is_rising : LogName → Bool
is_rising (Compacted first last) = nat_lt first last
is_rising _ = true
