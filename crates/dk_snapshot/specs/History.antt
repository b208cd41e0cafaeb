-- The log in plain words, apart from how it is read: each commit at its version, and none above them.
use Rattle.std.specs.Prelude.{All, [], codes, IfSome, ℕ, ◌≡◌, ◌<◌, ◌≤◌, ◌^◌, ◌+◌, List, length, Option, Some, None, option_and_then, slice_get}
use Rattle.dk_store.specs.Told.{Told}
use Rattle.dk_store.specs.Listing.{listing}
use Rattle.dk_store.specs.Objects.{content}
use Rattle.dk_store.specs.Standings.{standing}
use Rattle.dk_listing.specs.Newest.{checkpoint_version}
use Rattle.dk_listing.specs.Sizes.{stored_size}
use Rattle.dk_model.specs.declared.action.Action.{Action}
use Rattle.dk_model.specs.CommitText.{commit_of}
use Rattle.dk_paths.specs.Names.{commit_path, log_name_of}

-- These are the commits of the log: those of the versions 0 to n are all there and mean these lists of actions, and n is the greatest version.
pub record IsLog (events : List Told) (log : List (List Action)) : Type 0 where
  pub some : 0 < length log
  pub small : length log ≤ 2 ^ 63
  pub each : (version : ℕ) → version < length log → option_and_then commit_of (content events (commit_path version)) ≡ slice_get log version
  pub last : (version : ℕ) → length log ≤ version → version < 2 ^ 63 → content events (commit_path version) ≡ None

abbrev pub IsVersionBelow : ℕ → Option ℕ → Type 0
IsVersionBelow count version = IfSome version (λ v. v < count)

-- The log ends with its commits, of which there are so many: no later version stands ratified, and no checkpoint in the folder is of one.
pub record EndsWith (events : List Told) (count : ℕ) : Type 0 where
  pub ratified : (version : ℕ) → count ≤ version → standing events version ≡ None
  pub checkpoints : All (λ entry. IsVersionBelow count (checkpoint_version (log_name_of entry.name))) (listing events (codes "_delta_log") [])

-- no commit of the log is greater than the limit, in bytes
abbrev pub AreCommitsWithin : ℕ → List Told → Type 0
AreCommitsWithin limit events = (version : ℕ) → IfSome (stored_size events (commit_path version)) (λ size. size ≤ limit)

-- the version that is asked of such a log: the latest one, or a given one that it has
abbrev pub AsksFor : Option ℕ → List (List Action) → ℕ → Type 0
AsksFor None log version = version + 1 ≡ length log
AsksFor (Some asked) log version = (version ≡ asked) × (version < length log)
