-- The exit statuses.
use Rattle.std.specs.Prelude.{ℕ}
use Rattle.dk_cli.specs.declared.status.Status.{Status}
use Rattle.dk_cli.specs.declared.status.Status.TheVariants as statuses
use Rattle.dk_engine.specs.declared.refusal.Refusal.TheVariants as refusals

-- 0 for Done, 2 for Usage, 10 and 11 for a fault of the sink and of the source, and a number for each refusal
abbrev pub code_of : Status → ℕ
code_of statuses.Done = 0
code_of statuses.Usage = 2
code_of (statuses.Refused refusals.Store) = 3
code_of (statuses.Refused (refusals.Missing path)) = 4
code_of (statuses.Refused (refusals.Unsupported name)) = 5
code_of (statuses.Refused (refusals.Damaged path place)) = 7
code_of (statuses.Refused (refusals.Limit which value)) = 8
code_of (statuses.Refused refusals.OutOfMemory) = 9
code_of statuses.SinkFault = 10
code_of statuses.SourceFault = 11
code_of (statuses.Refused (refusals.Conflict version kind)) = 6
code_of (statuses.Refused (refusals.Invalid rule)) = 12
code_of (statuses.Refused (refusals.NoVersion latest)) = 13
code_of (statuses.Refused (refusals.Taken path)) = 14
code_of (statuses.Refused (refusals.WinnersGone path)) = 15
code_of (statuses.Refused (refusals.TooEarly first)) = 16
code_of (statuses.Refused (refusals.NothingToDo version)) = 17
code_of (statuses.Refused (refusals.Gone path)) = 18
code_of (statuses.Refused refusals.NotBegun) = 19
code_of (statuses.Refused (refusals.NoSpare count)) = 20
