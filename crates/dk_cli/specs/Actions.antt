-- The actions that the input means, one a line.
use Rattle.std.specs.Prelude.{◌≡◌, ℕ, ◌+◌, List, Option, Some, None, Result, Ok, Err, codes}
use Rattle.dk_model.specs.declared.action.Action.{Action}
use Rattle.dk_model.specs.CommitText.{reading_of}
use Rattle.dk_engine.specs.declared.limits.Limits.{Limits}
use Rattle.dk_engine.specs.declared.limits.Which.{Which}
use Rattle.dk_engine.specs.declared.limits.Which.TheVariants as which
use Rattle.dk_engine.specs.declared.refusal.Refusal.{Refusal}
use Rattle.dk_engine.specs.declared.refusal.Refusal.TheVariants as refusals
use Rattle.dk_engine.specs.Answers.{Refuses}
use Rattle.dk_cli.specs.declared.status.Status.{Status}
use Rattle.dk_cli.specs.declared.status.Status.TheVariants as statuses
use Rattle.dk_cli.specs.Input.{first_passed}

-- the number that passes a limit of the input: one more than it
abbrev pub one_past : Limits → Which → ℕ
one_past limits which.Input = limits.input + 1
one_past limits which.InputLine = limits.line + 1
one_past limits which.InputLines = limits.lines + 1
one_past limits _ = 0

-- the path of the input in a refusal
abbrev pub input_path : List ℕ
input_path = codes "-"

-- what an input means that passes no limit
abbrev pub read_actions : Result (List Action) ℕ → Result (List Action) Refusal
read_actions (Ok actions) = Ok actions
read_actions (Err line) = Err (refusals.Damaged input_path line)

abbrev pub limited : Limits → Option Which → Result (List Action) Refusal → Result (List Action) Refusal
limited limits (Some which) actions = Err (refusals.Limit which (one_past limits which))
limited limits None actions = actions

-- the actions of an input, or the first limit that it passes, or its first line that means nothing
abbrev pub actions_of : Limits → List ℕ → Result (List Action) Refusal
actions_of limits input = limited limits (first_passed limits input) (read_actions (reading_of input))

-- The actions are those that are meant; or the status is the refusal that is meant; or the source failed, which its count shows.
abbrev pub TakesActions : Result (List Action) Status → Result (List Action) Refusal → Type 0
TakesActions (Ok actions) meant = meant ≡ Ok actions
TakesActions (Err (statuses.Refused refusal)) meant = Refuses refusal meant
TakesActions (Err statuses.SourceFault) meant = Unit {0}
TakesActions (Err statuses.Done) meant = ⊥
TakesActions (Err statuses.Usage) meant = ⊥
TakesActions (Err statuses.SinkFault) meant = ⊥

-- ---- what may come where the input has no actions

abbrev pub InputRefuses : Refusal → Type 0
InputRefuses refusals.OutOfMemory = Unit {0}
InputRefuses (refusals.Damaged path line) = Unit {0}
InputRefuses (refusals.Limit which value) = Unit {0}
InputRefuses refusal = ⊥

abbrev pub InputEnds : Status → Type 0
InputEnds statuses.SourceFault = Unit {0}
InputEnds (statuses.Refused refusal) = InputRefuses refusal
InputEnds status = ⊥
