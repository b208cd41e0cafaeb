-- What the text of a commit means: a JSON object a line, each an action (Delta Lake's PROTOCOL.md, "Delta Log Entries").
use Rattle.std.specs.Prelude.{◌≡◌, ◌⊎◌, IsSome, ℕ, ◌+◌, List, [], ◌∷◌, ◌++◌, Bool, ◌||◌, ◌==◌, Option, Some, None, Result, Ok, Err, option_and_then, if◌then◌else◌}
use Rattle.std.specs.List.{slice_split, list_all}
use Rattle.std.specs.Option.{option_to_list}
use Rattle.std.specs.Str.{is_utf8}
use Rattle.serde_json.specs.Data.{Data}
use Rattle.serde_json.specs.Read.{read}
use Rattle.dk_model.specs.declared.action.Action.{Action}
use Rattle.dk_model.specs.ActionObject.{action_of}

-- a space, a tab or a carriage return
abbrev pub is_blank_byte : ℕ → Bool
is_blank_byte b = b == 32 || b == 9 || b == 13

abbrev pub is_blank : List ℕ → Bool
is_blank line = list_all is_blank_byte line

-- the JSON value of a line
abbrev pub json_of : List ℕ → Option Data
json_of line = if is_utf8 line then read line else None

-- what a line means: an action, or nothing to do; no answer where it means nothing
unfoldable pub line_means : List ℕ → Option (Option Action)
line_means line = if is_blank line then Some None else option_and_then action_of (json_of line)

abbrev pub lines_of : List ℕ → List (List ℕ)
lines_of bytes = slice_split (λ b. b == 10) bytes

abbrev pub with_front : List Action → Result (List Action) ℕ → Result (List Action) ℕ
with_front front (Ok actions) = Ok (front ++ actions)
with_front front (Err line) = Err line

abbrev pub after_line : Option (Option Action) → ℕ → Result (List Action) ℕ → Result (List Action) ℕ
after_line None number rest = Err number
after_line (Some a) number rest = with_front (option_to_list a) rest

-- the actions of lines that are numbered from here, or the first line that means nothing
abbrev pub reading : ℕ → List (List ℕ) → Result (List Action) ℕ
reading number [] = Ok []
reading number (line ∷ lines) = after_line (line_means line) number (reading (number + 1) lines)

-- the actions of a text, or the number of its first line that means nothing, counted from 1
abbrev pub reading_of : List ℕ → Result (List Action) ℕ
reading_of bytes = reading 1 (lines_of bytes)

abbrev pub commit_in : Result (List Action) ℕ → Option (List Action)
commit_in (Ok actions) = Some actions
commit_in (Err line) = None

abbrev pub fault_in : Result (List Action) ℕ → Option ℕ
fault_in (Ok actions) = None
fault_in (Err line) = Some line

abbrev pub commit_of : List ℕ → Option (List Action)
commit_of bytes = commit_in (reading_of bytes)

abbrev pub first_bad : List ℕ → Option ℕ
first_bad bytes = fault_in (reading_of bytes)

-- the line of that number, counted from `from`, means nothing, and all before it mean something
abbrev pub IsFirstBad : ℕ → List (List ℕ) → ℕ → Type 0
IsFirstBad from [] number = ⊥
IsFirstBad from (line ∷ lines) number = ((number ≡ from) × (line_means line ≡ None)) ⊎ (IsSome (line_means line) × IsFirstBad (from + 1) lines number)

-- the number of a fault is that of the first line that means nothing
abbrev pub FaultIsFirst : Type 0
FaultIsFirst = (bytes : List ℕ) (number : ℕ) → first_bad bytes ≡ Some number → IsFirstBad 1 (lines_of bytes) number
