-- How each command may end, over any store, source and sink.
use Rattle.std.specs.Prelude.{ℕ, ◌≡◌, List, Option, Some, None}
use Rattle.dk_snapshot.specs.Refusals.{OpenRefuses}
use Rattle.dk_txn.specs.Refusals.{CommitAtLatestRefuses}
use Rattle.dk_cli.specs.declared.status.Status.{Status}
use Rattle.dk_cli.specs.declared.status.Status.TheVariants as statuses
use Rattle.dk_cli.specs.declared.words.Command.{Command}
use Rattle.dk_cli.specs.declared.words.Command.TheVariants as commands

-- `show` of this version, or of the latest one
abbrev pub ShowMayEnd : Option ℕ → Status → Type 0
ShowMayEnd at statuses.Done = Unit {0}
ShowMayEnd at statuses.SinkFault = Unit {0}
ShowMayEnd at (statuses.Refused refusal) = OpenRefuses at refusal
ShowMayEnd at statuses.SourceFault = ⊥
ShowMayEnd at statuses.Usage = ⊥

-- `commit`
abbrev pub CommitMayEnd : Status → Type 0
CommitMayEnd statuses.Done = Unit {0}
CommitMayEnd statuses.SinkFault = Unit {0}
CommitMayEnd statuses.SourceFault = Unit {0}
CommitMayEnd (statuses.Refused refusal) = CommitAtLatestRefuses refusal
CommitMayEnd statuses.Usage = ⊥

-- Each command may end with its statuses and no others, over any store, source and sink; words that are no command end with Usage, and no command does.
abbrev pub MayEnd : Option Command → Status → Type 0
MayEnd (Some (commands.Show at choice)) status = ShowMayEnd at status
MayEnd (Some (commands.Commit reads)) status = CommitMayEnd status
MayEnd None status = status ≡ statuses.Usage

-- With a status other than Done and SinkFault the sink was left alone.
abbrev pub IsUnwritten : Status → Option (List ℕ) → Option (List ℕ) → Type 0
IsUnwritten statuses.Done old new = Unit {0}
IsUnwritten statuses.SinkFault old new = Unit {0}
IsUnwritten statuses.SourceFault old new = new ≡ old
IsUnwritten statuses.Usage old new = new ≡ old
IsUnwritten (statuses.Refused refusal) old new = new ≡ old
