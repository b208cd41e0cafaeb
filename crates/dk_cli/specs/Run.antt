-- What the program's answer owes to the meaning of its command.
use Rattle.std.specs.Prelude.{ℕ, ℤ, ◌≡◌, Bool, true, false, List, Option, Some, None, Result, Ok, Err, take, String}
use Rattle.std.specs.Global.{Global}
use Rattle.dk_store.specs.Stream.{more}
use Rattle.dk_cli.specs.Words.{words_of, command_of}
use Rattle.dk_cli.specs.declared.words.Command.{Command}
use Rattle.dk_cli.specs.declared.words.Command.TheVariants as commands
use Rattle.dk_cli.specs.declared.status.Status.{Status}
use Rattle.dk_cli.specs.declared.status.Status.TheVariants as statuses
use Rattle.dk_engine.specs.declared.refusal.Refusal.{Refusal}
use Rattle.dk_engine.specs.Answers.{AnswersBy}

-- the command that the words ask for, if they ask for one
abbrev pub asked : List (String Global) → Option Command
asked words = command_of (words_of words)

-- the words ask for this command
abbrev pub Asks : List (String Global) → Command → Type 0
Asks words command = asked words ≡ Some command

-- ---- kinds of command

-- these change the log, and all others only read it
abbrev pub writes_log : Option Command → Bool
writes_log (Some (commands.Commit reads)) = true
writes_log command = false

-- these read the input to its end, and all others leave it
abbrev pub takes_input : Option Command → Bool
takes_input (Some (commands.Commit reads)) = true
takes_input command = false

-- the cut of tombstones that a command works for, if it works for one; the commands that there are work for none
abbrev pub cut_for : Option Command → Option ℤ
cut_for command = None

-- the words ask for a command that only reads the log, or for none
abbrev pub AsksToRead : List (String Global) → Type 0
AsksToRead words = writes_log (asked words) ≡ false

-- the words ask for a command that leaves the input, or for none
abbrev pub LeavesInput : List (String Global) → Type 0
LeavesInput words = takes_input (asked words) ≡ false

-- the words ask for a command that reads the input to its end
abbrev pub TakesInput : List (String Global) → Type 0
TakesInput words = takes_input (asked words) ≡ true

-- ---- `show`

-- With Done the sink took a text that is meant, with SinkFault a beginning of one; a refusal is the meaning's, and then nothing was written.
abbrev pub AnswersText : (Result (List ℕ) Refusal → Type 0) → Option (List ℕ) → Status → Option (List ℕ) → Type 0
AnswersText Means old statuses.Done new = (text : List ℕ) × Means (Ok text) × (new ≡ more old text)
AnswersText Means old statuses.SinkFault new = (text : List ℕ) × (count : ℕ) × Means (Ok text) × (new ≡ more old (take count text))
AnswersText Means old (statuses.Refused refusal) new = AnswersBy {X = List ℕ} (λ text. text) (Err refusal) Means × (new ≡ old)
AnswersText Means old statuses.Usage new = ⊥
AnswersText Means old statuses.SourceFault new = ⊥
