-- What the promise on `show` wants of an answer.
use Rattle.std.specs.Prelude.{ℕ, ℤ, ◌≡◌, ◌+◌, false, All, List, [], Option, length, take, codes}
use Rattle.dk_store.specs.Told.{Told}
use Rattle.dk_store.specs.Listing.{listing}
use Rattle.dk_store.specs.Stream.{more}
use Rattle.dk_paths.specs.declared.log_name.LogName.{LogName}
use Rattle.dk_paths.specs.declared.log_name.LogName.TheVariants as names
use Rattle.dk_paths.specs.Names.{log_name_of}
use Rattle.dk_model.specs.declared.action.Action.{Action}
use Rattle.dk_model.specs.State.{fold}
use Rattle.dk_lawful.specs.declared.segment.Choice.{Choice}
use Rattle.dk_engine.specs.declared.limits.Limits.{Limits}
use Rattle.dk_snapshot.specs.History.{IsLog, EndsWith, AreCommitsWithin, AsksFor}
use Rattle.dk_snapshot.specs.Support.{IsRead, cut_before}
use Rattle.dk_cli.specs.Shown.{shown}
use Rattle.dk_engine.specs.declared.refusal.Refusal.TheVariants as refusals
use Rattle.dk_cli.specs.declared.status.Status.{Status}
use Rattle.dk_cli.specs.declared.status.Status.TheVariants as statuses

-- Done, with this text given to the sink; or a fault by its cause, or want of memory.
abbrev pub ShowsText : List ℕ → Option (List ℕ) → Status → Option (List ℕ) → Type 0
ShowsText text old statuses.Done new = new ≡ more old text
ShowsText text old statuses.SinkFault new = (count : ℕ) × (new ≡ more old (take count text))
ShowsText text old (statuses.Refused refusals.Store) new = new ≡ old
ShowsText text old (statuses.Refused refusals.OutOfMemory) new = new ≡ old
ShowsText text old (statuses.Refused refusal) new = ⊥
ShowsText text old statuses.Usage new = ⊥
ShowsText text old statuses.SourceFault new = ⊥

-- neither a checkpoint's object nor a compacted file
abbrev pub IsNoSum : LogName → Type 0
IsNoSum (names.Commit version) = Unit {0}
IsNoSum names.Hint = Unit {0}
IsNoSum names.Other = Unit {0}
IsNoSum name = ⊥

-- the log is read from its commits: its folder has no checkpoint and no compacted file, and published commits come before staged ones
pub record IsReadByCommits (events : List Told) (choice : Choice) : Type 0 where
  pub no_sums : All (λ entry. IsNoSum (log_name_of entry.name)) (listing events (codes "_delta_log") [])
  pub published : choice.staged_first ≡ false

-- Over a log of commit files alone, none over the limit, of which the asked version is one that is read, the answer shows the fold of the
-- commits up to it.
abbrev pub ShowsLog : List Told → Limits → Option ℕ → Choice → ℤ → Option (List ℕ) → Status → Option (List ℕ) → Type 0
ShowsLog events limits at choice now old status new =
    (log : List (List Action)) (version : ℕ) (kept : ℤ) → IsLog events log → EndsWith events (length log) → IsReadByCommits events choice → AreCommitsWithin limits.object events → AsksFor at log version
    → IsRead (fold (take (version + 1) log)) kept → ShowsText (shown version (fold (take (version + 1) log)) (cut_before now kept)) old status new
